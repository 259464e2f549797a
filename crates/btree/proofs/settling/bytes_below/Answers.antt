use Rattle.tree_model.proofs.StoreLemmas.{failed_so}
use Rattle.btree.proofs.settling.bytes_below.Goals as goal

pub returns-in_err-shared-clause-cause : goal.returns-in_err-shared-clause-cause
returns-in_err-shared-clause-cause g c =
    λ k there.
    let at = there c.in-Some.page c.in-Some.ensures in
    failed_so (g.P.Pages.store c.args.pages.now) (g.P.Pages.store c.read.new.self) _ _ c.from_residual.ensures.1 (c.in_err-shared.ensures.cause k at.0 at.1)
