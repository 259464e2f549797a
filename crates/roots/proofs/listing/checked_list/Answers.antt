use Rattle.std.proofs.Common.{◌≡◌, ◌∙◌, Bool, false, subst}
use Rattle.page.specs.History.{now, reads}
use Rattle.roots.specs.HeldFile.{FitsTree}
use Rattle.roots.specs.Image.{model_at}
use Rattle.roots.specs.Store.{disk_history, durable_root}
use Rattle.roots.specs.declared.root.Root.{Root}
use Rattle.roots.proofs.HeldFileLemmas.{unfit}
use Rattle.roots.proofs.listing.checked_list.Goals as goal

pub returns-then-not-branch-clause-list : goal.returns-then-not-branch-clause-list
returns-then-not-branch-clause-list g c =
    let history = g.D.Disk.history in
    let root = durable_root c.args.store.now in
    let tree = c.args.tree.now in
    let list = c.in-Ok.list in
    let root_is : c.root.result ≡ root = c.root.ensures ∙ c.in-Ok.ensures.reads.root in
    let fits : FitsTree root tree list.pages.items list.named.items false =
    subst (λ (r : Root). FitsTree r tree list.pages.items list.named.items false) root_is
    (subst (λ (b : Bool). FitsTree c.root.result tree list.pages.items list.named.items b) c.if-not-branch.true c.in_ok-fits_tree.ensures) in
    λ k. unfit (model_at (reads (now (disk_history history c.args.store.now))) root) root tree list (c.in-Ok.ensures.list k) fits
