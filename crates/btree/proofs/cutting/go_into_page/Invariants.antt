use Rattle.std.proofs.Common.{◌≤◌, map, drop, None}
use Rattle.std.specs.Option.{option_map}
use Rattle.btree.specs.Loose.{GoBehind}
use Rattle.btree.specs.LooseView.{slot_in}
use Rattle.btree.proofs.cutting.go_into_page.Given as goal

abbrev pub invariant-loop-loose_slot : goal.invariant-loop-loose_slot
invariant-loop-loose_slot l = record {
  used : l.used ≤ 4080;
  to : GoBehind None 0 (map slot_in l.loose_slots) → GoBehind (option_map (λ b. b.now) l.last) l.used (drop l.loose_slot-index (map slot_in l.loose_slots));
  fro : GoBehind (option_map (λ b. b.now) l.last) l.used (drop l.loose_slot-index (map slot_in l.loose_slots)) → GoBehind None 0 (map slot_in l.loose_slots);
}
