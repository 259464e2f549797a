use Rattle.std.proofs.Common.{arith}
use Rattle.btree.proofs.CuttingLemmas.{little_behind}
use Rattle.btree.proofs.joining.fill_pages.Goals as goal

pub returns : goal.returns
returns c =
    λ no small.
    omega (
      arith,
      little_behind c.args.loose_slots.now c.loose_slots_within-whole.result c.loose_slots_within-behind.result 1360 (omega arith) (omega arith)
          c.loose_slots_within-behind.ensures.room,
      c.loose_slots_within-whole.ensures.room,
    )
