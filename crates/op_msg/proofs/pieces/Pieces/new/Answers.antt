use Rattle.std.proofs.Common.{refl}
use Rattle.op_msg.proofs.pieces.Pieces.new.Goals as goal

pub invariant_of-result : goal.invariant_of-result
invariant_of-result c = rw (c.new.ensures.items) (refl, refl)
