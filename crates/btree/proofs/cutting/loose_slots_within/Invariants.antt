use Rattle.std.proofs.Common.{◌≡◌, ◌≤◌, map, take}
use Rattle.btree.specs.Loose.{slots_size}
use Rattle.btree.specs.LooseView.{slot_in}
use Rattle.btree.proofs.cutting.loose_slots_within.Given as goal

abbrev pub invariant-loop-i : goal.invariant-loop-i
invariant-loop-i l = record {
  used : slots_size (take l.i (map slot_in l.loose_slots)) ≡ l.used;
  limit : l.used ≤ l.limit;
}
