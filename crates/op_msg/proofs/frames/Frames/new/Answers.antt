use Rattle.std.proofs.Common.{[], arith}
use Rattle.op_msg.proofs.WholeLemmas.{none_whole, too_few}
use Rattle.op_msg.proofs.frames.Frames.new.Goals as goal

pub invariant_of-result : goal.invariant_of-result
invariant_of-result c = rw (c.new.ensures.items, c.new-2.ensures) (omega arith, none_whole, too_few [] (omega arith))
