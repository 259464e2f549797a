use Rattle.std.proofs.Common.{◌≡◌, map, take}
use Rattle.btree.specs.Loose.{item_slot}
use Rattle.btree.specs.LooseView.{slot_in}
use Rattle.btree.proofs.taking_apart.loose_slots_of_leaf.Given as goal

abbrev pub invariant-loop-i : goal.invariant-loop-i
invariant-loop-i l = map slot_in l.loose_slots.items ≡ take l.i (map item_slot l.leaf)
