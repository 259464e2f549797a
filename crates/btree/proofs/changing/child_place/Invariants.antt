use Rattle.std.proofs.Common.{◌+◌, ◌<◌, map, get_or, length}
use Rattle.tree_model.specs.Keys.{IsUnder}
use Rattle.btree.specs.Loose.{Slot}
use Rattle.btree.specs.LooseView.{slot_in}
use Rattle.btree.proofs.changing.child_place.Given as goal

abbrev pub invariant-loop-at : goal.invariant-loop-at
invariant-loop-at l = record {
  within : l.at < length l.loose_slots;
  next : (s : Slot) → l.at + 1 < length l.loose_slots → IsUnder l.key (get_or (map slot_in l.loose_slots) (l.at + 1) s).key;
}

abbrev pub decreases-loop-at : goal.decreases-loop-at
decreases-loop-at l = l.at
