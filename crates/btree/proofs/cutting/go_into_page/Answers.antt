use Rattle.std.proofs.Common.{◌≡◌, ◌≤◌, ◌+◌, sym, subst, arith}
use Rattle.std.specs.Option.{option_map}
use Rattle.btree.specs.Loose.{GoBehind, slot_size}
use Rattle.btree.specs.LooseView.{slot_in}
use Rattle.btree.proofs.CuttingLemmas.{drop_at}
use Rattle.btree.proofs.cutting.go_into_page.Goals as goal

pub returns-then-not-is_loose_slot-clause-yes : goal.returns-then-not-is_loose_slot-clause-yes
returns-then-not-is_loose_slot-clause-yes c =
    λ all. let rest =
    subst (GoBehind (option_map (λ b. b.now) c.loop-loose_slot.last) c.loop-loose_slot.used)
    (drop_at c.args.loose_slots.now c.loop-loose_slot.loose_slot-index c.loose_slot-item.result _ (omega arith) c.loose_slot-item.is)
    (c.loop-loose_slot.invariant.to all) in
    let yes = c.is_loose_slot.ensures.yes rest.0 in cc

pub returns-then-not-is_over-clause-yes : goal.returns-then-not-is_over-clause-yes
returns-then-not-is_over-clause-yes c =
    λ all. let rest =
    subst (GoBehind (option_map (λ b. b.now) c.loop-loose_slot.last) c.loop-loose_slot.used)
    (drop_at c.args.loose_slots.now c.loop-loose_slot.loose_slot-index c.loose_slot-item.result _ (omega arith) c.loose_slot-item.is)
    (c.loop-loose_slot.invariant.to all) in
    let yes = c.is_over.ensures.yes (rw c.as_slice-key.ensures.value rest.1) in cc

pub returns-then-size-used-clause-yes : goal.returns-then-size-used-clause-yes
returns-then-size-used-clause-yes c =
    λ all. let rest =
    subst (GoBehind (option_map (λ b. b.now) c.loop-loose_slot.last) c.loop-loose_slot.used)
    (drop_at c.args.loose_slots.now c.loop-loose_slot.loose_slot-index c.loose_slot-item.result _ (omega arith) c.loose_slot-item.is)
    (c.loop-loose_slot.invariant.to all) in
    let room : c.loop-loose_slot.used + slot_size (slot_in c.loose_slot-item.result) ≤ 4080 = rest.2 in
    let same : c.loose_slot_size-size.result ≡ slot_size (slot_in c.loose_slot-item.result) = c.loose_slot_size-size.ensures.small (omega arith) in
    absurd (omega arith)

pub loop-loose_slot-preserved : goal.loop-loose_slot-preserved
loop-loose_slot-preserved c =
    let at = drop_at c.args.loose_slots.now c.loop-loose_slot.loose_slot-index c.loose_slot-item.result _ (omega arith) c.loose_slot-item.is in
    let loose_slot = c.is_loose_slot.ensures.no c.if-not-is_loose_slot.false in
    let over = c.is_over.ensures.no c.if-not-is_over.false in
    let same : c.loose_slot_size-size.result ≡ slot_size (slot_in c.loose_slot-item.result) = c.loose_slot_size-size.ensures.large (omega arith) in
    record {
      used = omega arith;
      to = λ all. let rest = subst (GoBehind (option_map (λ b. b.now) c.loop-loose_slot.last) c.loop-loose_slot.used) at (c.loop-loose_slot.invariant.to all) in
          rw (c.as_slice-key.ensures.value, same) rest.3;
      fro = λ rest. c.loop-loose_slot.invariant.fro
          (subst (GoBehind (option_map (λ b. b.now) c.loop-loose_slot.last) c.loop-loose_slot.used) (sym at)
          (loose_slot, rw c.as_slice-key.ensures.value at over, omega arith, rw (c.as_slice-key.ensures.value, same) at rest));
    }
