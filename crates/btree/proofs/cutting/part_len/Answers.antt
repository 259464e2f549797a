use Rattle.std.proofs.Common.{[], ap, sym, subst, ◌+◌, ◌-◌, ◌<◌, ◌≤◌, arith, length, map, take, drop, get_or}
use Rattle.page.specs.Content.{inline}
use Rattle.btree.specs.Loose.{IsPart, Slot, value, slot_size, slots_size}
use Rattle.btree.specs.LooseView.{slot_in}
use Rattle.tree_model.proofs.ListLemmas.{long_map}
use Rattle.btree.proofs.CuttingLemmas.{each_at, behind_is, behind_long, none_fits, size_next, take_over, part_front, part_half}
use Rattle.btree.proofs.FewParts.{full_half, full_whole}
use Rattle.btree.proofs.cutting.part_len.Goals as goal

none : Slot
none = record { key = []; load = value (inline []) }

pub returns-then-whole-eq0-clause-part : goal.returns-then-whole-eq0-clause-part
returns-then-whole-eq0-clause-part c =
    λ small. none_fits (map slot_in c.args.loose_slots.now) none c.args.fills 4080 (omega (arith, long_map slot_in c.args.loose_slots.now)) (omega arith)
    (subst (λ n. 4080 < slots_size (take n (map slot_in c.args.loose_slots.now)) + slot_size (get_or (map slot_in c.args.loose_slots.now) n none))
    c.if-whole-eq0.true
    (c.loose_slots_within-whole.ensures.next none (omega arith))) small

pub returns-then-whole-behind-clause-part : goal.returns-then-whole-behind-clause-part
returns-then-whole-behind-clause-part c =
    λ small.
    let long = long_map slot_in c.args.loose_slots.now in
    let next : 1360 < slots_size (take c.loose_slots_within-behind.result (drop c.loose_slots_within-whole.result (map slot_in c.args.loose_slots.now)))
    + slot_size (get_or (drop c.loose_slots_within-whole.result (map slot_in c.args.loose_slots.now)) c.loose_slots_within-behind.result none) =
    subst (λ ss. 1360 < slots_size (take c.loose_slots_within-behind.result ss) + slot_size (get_or ss c.loose_slots_within-behind.result none))
    (behind_is c.args.loose_slots.now c.loose_slots_within-whole.result (omega arith))
    (c.loose_slots_within-behind.ensures.next none
    (omega (
      arith,
      ap length (take_over (length c.args.loose_slots.now - c.loose_slots_within-whole.result) (drop c.loose_slots_within-whole.result c.args.loose_slots.now)
          (omega (arith, behind_long c.loose_slots_within-whole.result c.args.loose_slots.now (omega arith)))),
      behind_long c.loose_slots_within-whole.result c.args.loose_slots.now (omega arith),
    ))) in
    subst (λ f. IsPart f (map slot_in c.args.loose_slots.now) c.loose_slots_within-whole.result) (sym c.if-fills.false)
    (part_front (map slot_in c.args.loose_slots.now) none c.loose_slots_within-whole.result c.loose_slots_within-behind.result (omega arith)
    (c.loose_slots_within-whole.ensures.next none (omega arith)) c.loose_slots_within-whole.ensures.room (omega arith) next small)

pub returns-then-half-eq0-clause-part : goal.returns-then-half-eq0-clause-part
returns-then-half-eq0-clause-part c =
    λ small. none_fits (map slot_in c.args.loose_slots.now) none c.args.fills 2720 (omega (arith, long_map slot_in c.args.loose_slots.now)) (omega arith)
    (subst (λ n. 2720 < slots_size (take n (map slot_in c.args.loose_slots.now)) + slot_size (get_or (map slot_in c.args.loose_slots.now) n none))
    c.if-half-eq0.true
    (c.loose_slots_within-half.ensures.next none (omega arith))) small

pub returns-clause-part : goal.returns-clause-part
returns-clause-part c =
    λ small.
    let long = long_map slot_in c.args.loose_slots.now in
    subst (λ f. IsPart f (map slot_in c.args.loose_slots.now) c.loose_slots_within-half.result) (sym c.if-fills.false)
    (part_half (map slot_in c.args.loose_slots.now) none c.loose_slots_within-whole.result c.loose_slots_within-half.result (omega arith)
    (c.loose_slots_within-whole.ensures.next none (omega arith)) (omega (arith, c.loose_slots_within-half.ensures.within))
    c.loose_slots_within-half.ensures.room
    (λ lt. c.loose_slots_within-half.ensures.next none (omega arith)) small)

pub returns-then-whole-eq0-clause-full : goal.returns-then-whole-eq0-clause-full
returns-then-whole-eq0-clause-full c =
    λ small.
    let one = each_at 0 (map slot_in c.args.loose_slots.now) none (omega (arith, long_map slot_in c.args.loose_slots.now)) small in
    let next = subst
    (λ n. 4080 < slots_size (take n (map slot_in c.args.loose_slots.now)) + slot_size (get_or (map slot_in c.args.loose_slots.now) n none)) c.if-whole-eq0.true
    (c.loose_slots_within-whole.ensures.next none (omega arith)) in
    absurd (omega arith)

pub returns-then-half-eq0-clause-full : goal.returns-then-half-eq0-clause-full
returns-then-half-eq0-clause-full c =
    λ small.
    let one = each_at 0 (map slot_in c.args.loose_slots.now) none (omega (arith, long_map slot_in c.args.loose_slots.now)) small in
    let next = subst
    (λ n. 2720 < slots_size (take n (map slot_in c.args.loose_slots.now)) + slot_size (get_or (map slot_in c.args.loose_slots.now) n none)) c.if-half-eq0.true
    (c.loose_slots_within-half.ensures.next none (omega arith)) in
    absurd (omega arith)

pub returns-then-fills-clause-full : goal.returns-then-fills-clause-full
returns-then-fills-clause-full c =
    λ small. full_whole (map slot_in c.args.loose_slots.now) none c.loose_slots_within-whole.result (omega (arith, long_map slot_in c.args.loose_slots.now))
    (c.loose_slots_within-whole.ensures.next none (omega arith)) small

pub returns-then-whole-behind-clause-full : goal.returns-then-whole-behind-clause-full
returns-then-whole-behind-clause-full c =
    λ small. full_whole (map slot_in c.args.loose_slots.now) none c.loose_slots_within-whole.result (omega (arith, long_map slot_in c.args.loose_slots.now))
    (c.loose_slots_within-whole.ensures.next none (omega arith)) small

pub returns-clause-full : goal.returns-clause-full
returns-clause-full c =
    λ small.
    let long = long_map slot_in c.args.loose_slots.now in
    let there = behind_is c.args.loose_slots.now c.loose_slots_within-whole.result (omega arith) in
    full_half (map slot_in c.args.loose_slots.now) none c.loose_slots_within-whole.result c.loose_slots_within-behind.result c.loose_slots_within-half.result
    (omega arith)
    (c.loose_slots_within-whole.ensures.next none (omega arith)) c.loose_slots_within-whole.ensures.room
    (omega (
      arith,
      ap length there,
      behind_long c.loose_slots_within-whole.result c.args.loose_slots.now (omega arith),
      long_map slot_in (take (length c.args.loose_slots.now - c.loose_slots_within-whole.result)
          (drop c.loose_slots_within-whole.result c.args.loose_slots.now)),
    )) (subst (λ ss. slots_size (take c.loose_slots_within-behind.result ss) ≤ 1360) there c.loose_slots_within-behind.ensures.room)
    (λ lt. c.loose_slots_within-half.ensures.next none (omega arith)) small

pub is_enough-requires-clause-over : goal.is_enough-requires-clause-over
is_enough-requires-clause-over c =
    let lt : c.loose_slots_within-whole.result < length (map slot_in c.args.loose_slots.now) = omega (arith, long_map slot_in c.args.loose_slots.now) in
    omega (
      arith,
      c.loose_slots_within-whole.ensures.next none (omega arith),
      size_next c.loose_slots_within-whole.result (map slot_in c.args.loose_slots.now)
          none lt,
    )

pub returns-then-is_enough-clause-part : goal.returns-then-is_enough-clause-part
returns-then-is_enough-clause-part c =
    λ small. subst (λ f. IsPart f (map slot_in c.args.loose_slots.now) (c.loose_slots_within-clone_ref.result + 1)) (sym c.if-fills.false)
    (c.is_enough.ensures.enough c.if-is_enough.true small).0
