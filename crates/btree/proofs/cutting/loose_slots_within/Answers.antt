use Rattle.std.proofs.Common.{◌≡◌, arith}
use Rattle.btree.specs.Loose.{slot_size}
use Rattle.btree.specs.LooseView.{slot_in}
use Rattle.btree.proofs.CuttingLemmas.{take_at}
use Rattle.btree.proofs.cutting.loose_slots_within.Goals as goal

pub loop-i-preserved : goal.loop-i-preserved
loop-i-preserved c =
    let same : c.loose_slot_size-size.result ≡ slot_size (slot_in c.index-loose_slots-i.result) = c.loose_slot_size-size.ensures.large (omega arith) in
    record {
      used = omega (arith, take_at c.args.loose_slots.now c.loop-i.i c.index-loose_slots-i.result _ (omega arith) c.index-loose_slots-i.is, same);
      limit = omega arith;
    }
