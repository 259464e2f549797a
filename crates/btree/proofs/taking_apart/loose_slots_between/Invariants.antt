use Rattle.std.proofs.Common.{◌≡◌, map}
use Rattle.btree.specs.Loose.{pivot_slot, under_key}
use Rattle.btree.specs.LooseView.{slot_in}
use Rattle.btree.specs.OneChild.{slots_between}
use Rattle.btree.proofs.taking_apart.loose_slots_between.Given as goal

abbrev pub invariant-loop-i : goal.invariant-loop-i
invariant-loop-i l = map slot_in l.loose_slots.items ≡ slots_between l.from l.i (map pivot_slot (under_key l.low l.branch))
