use Rattle.std.proofs.Common.{rules}
use Rattle.page.specs.History.{now, reads}
use Rattle.roots.specs.Image.{model_at}
use Rattle.roots.proofs.BookLemmas.{err_so, no_root_page}
use Rattle.roots.proofs.store.Store.check_tree_page.Goals as goal

pub returns-in_err-image-clause-judged : goal.returns-in_err-image-clause-judged
returns-in_err-image-clause-judged g c =
    let root = c.args.self.now.root in
    let models = model_at (reads (now (g.D.Disk.history c.args.self.now.disk))) root in
    let e = c.in_err-image.field-0.0 in
    λ k. err_so c.from_residual.result _ e (search rules) (λ is. no_root_page models root (search rules) (c.in_err-image.ensures.reads.model k is))
