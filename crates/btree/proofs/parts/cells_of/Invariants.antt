use Rattle.std.proofs.Common.{◌≡◌, map, take}
use Rattle.btree.specs.Loose.{item_slot}
use Rattle.btree.specs.LooseView.{slot_in}
use Rattle.tree_model.specs.View.{item_in}
use Rattle.btree.proofs.parts.cells_of.Given as goal

abbrev pub invariant-loop-loose_slot : goal.invariant-loop-loose_slot
invariant-loop-loose_slot l = map item_slot (map item_in l.cells.items) ≡ take l.loose_slot-index (map slot_in l.loose_slots)
