use Rattle.std.proofs.Common.{◌≡◌, map, take}
use Rattle.btree.specs.Loose.{pivot_slot}
use Rattle.btree.specs.LooseView.{slot_in}
use Rattle.tree_model.specs.View.{pivot_in}
use Rattle.btree.proofs.parts.children_of.Given as goal

abbrev pub invariant-loop-loose_slot : goal.invariant-loop-loose_slot
invariant-loop-loose_slot l = map pivot_slot (map pivot_in l.children.items) ≡ take l.loose_slot-index (map slot_in l.loose_slots)
