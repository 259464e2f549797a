use Rattle.std.proofs.Common.{◌≡◌, map, take}
use Rattle.btree.specs.Loose.{item_slot}
use Rattle.btree.specs.LooseView.{slot_in}
use Rattle.tree_model.specs.View.{item_in}
use Rattle.btree.proofs.node.loose_slots_of_cells.Given as goal

abbrev pub invariant-loop-cell : goal.invariant-loop-cell
invariant-loop-cell l = map slot_in l.loose_slots.items ≡ take l.cell-index (map item_slot (map item_in l.cells))
