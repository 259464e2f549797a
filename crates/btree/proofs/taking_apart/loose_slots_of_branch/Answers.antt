use Rattle.std.proofs.Common.{◌≡◌, ◌∙◌, ap, arith, length, map}
use Rattle.btree.specs.Loose.{pivot_slot, under_key}
use Rattle.btree.specs.LooseView.{slot_in}
use Rattle.btree.proofs.CuttingLemmas.{take_over}
use Rattle.btree.proofs.HeldLemmas.{under_long}
use Rattle.tree_model.proofs.ListLemmas.{long_map}
use Rattle.btree.proofs.taking_apart.loose_slots_of_branch.Goals as goal

pub returns-clause-ok : goal.returns-clause-ok
returns-clause-ok c =
    let slots = map pivot_slot (under_key c.args.low.now c.args.branch.now) in
    c.in_ok-loose_slots.ensures.ok ∙ take_over c.len.result slots (omega (arith, c.len.ensures.count, under_long c.args.low.now c.args.branch.now))

pub returns-clause-some : goal.returns-clause-some
returns-clause-some c =
    let slots = map pivot_slot (under_key c.args.low.now c.args.branch.now) in
    let all : map slot_in c.in_ok-loose_slots.loose_slots.items ≡ slots =
    c.in_ok-loose_slots.ensures.ok ∙ take_over c.len.result slots (omega (arith, c.len.ensures.count, under_long c.args.low.now c.args.branch.now)) in
    omega (
      arith,
      ap length all,
      long_map slot_in c.in_ok-loose_slots.loose_slots.items,
      under_long c.args.low.now c.args.branch.now,
      c.len.ensures.sound.some,
    )
