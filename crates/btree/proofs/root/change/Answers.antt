use Rattle.std.proofs.Common.{map}
use Rattle.tree_model.specs.EditView.{edit_in}
use Rattle.tree_model.specs.Keys.{change}
use Rattle.btree.proofs.FewLemmas.{costs_on}
use Rattle.btree.proofs.RootLemmas.{change_failed, change_on}
use Rattle.tree_model.proofs.StoreLemmas.{grows_trans}
use Rattle.btree.proofs.root.change.Goals as goal

pub returns-in_err-top-clause-changes : goal.returns-in_err-top-clause-changes
returns-in_err-top-clause-changes g c =
    λ before entries there rise k. change_failed (g.P.Pages.store c.args.pages.now)
    (g.P.Pages.store c.change_root.new.pages) _ before c.from_residual.result _ c.from_residual.ensures.1
    (c.in_err-top.ensures.turns before entries there rise k)

pub returns-clause-changes : goal.returns-clause-changes
returns-clause-changes g c =
    λ before entries there rise k.
    let word = (c.write_root.ensures.grows.frame k).word in
    let u = c.in_ok-top.ensures.turns before entries there rise word in
    change_on (g.P.Pages.store c.args.pages.now) (g.P.Pages.store c.change_root.new.pages) (g.P.Pages.store c.write_root.new.pages)
    (change (map edit_in c.args.edits.now) entries) before u.after c.write_root.result (c.in_ok-top.ensures.grows.frame word) u.turned
    (c.write_root.ensures.roots (change (map edit_in c.args.edits.now) entries) u.after u.held k)

pub returns-clause-grows : goal.returns-clause-grows
returns-clause-grows g c = grows_trans _ _ _ c.in_ok-top.ensures.grows c.write_root.ensures.grows

pub returns-clause-few : goal.returns-clause-few
returns-clause-few g c =
    λ before entries tree one k.
    let u = c.in_ok-top.ensures.few before entries tree one (c.write_root.ensures.grows.frame k).word in
    costs_on (g.P.Pages.store c.args.pages.now) (g.P.Pages.store c.change_root.new.pages)
    (g.P.Pages.store c.write_root.new.pages) u.pages _ _ u.made (c.write_root.ensures.few u.halvings u.little k) u.enough

pub returns-in_err-top-clause-few : goal.returns-in_err-top-clause-few
returns-in_err-top-clause-few g c = λ before entries tree one k. c.in_err-top.ensures.few before entries tree one k
