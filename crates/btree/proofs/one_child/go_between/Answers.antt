use Rattle.std.proofs.Common.{◌∙◌, ap, map, subst}
use Rattle.page.specs.ChildPage.{exchanged}
use Rattle.page.specs.Content.{IsBranch}
use Rattle.btree.specs.LooseView.{slot_in}
use Rattle.btree.proofs.one_child.go_between.Goals as goal

pub returns-clause-sound : goal.returns-clause-sound
returns-clause-sound c =
    λ pivots e is. subst IsBranch (λ i. exchanged (c.saturating_sub.ensures i) (c.place_behind.ensures.place i) pivots c.args.branch.now)
    (c.find_room.ensures pivots (ap (map slot_in) c.deref.ensures.value ∙ e) is)
