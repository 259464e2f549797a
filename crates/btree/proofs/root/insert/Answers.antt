use Rattle.std.proofs.Common.{arith, refl}
use Rattle.btree.proofs.FewLemmas.{costs_on}
use Rattle.btree.proofs.root.insert.Goals as goal

pub returns-clause-few : goal.returns-clause-few
returns-clause-few g c =
    λ before entries tree k.
    costs_on (g.P.Pages.store c.args.pages.now) (g.P.Pages.store c.args.pages.now) (g.P.Pages.store c.change.new.pages) 0 _ _ (omega arith)
    (c.change.ensures.few before entries tree refl k) (omega arith)
