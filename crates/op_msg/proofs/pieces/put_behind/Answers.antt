use Rattle.std.proofs.Common.{arith}
use Rattle.op_msg.proofs.WholeLemmas.{longer_last, on_ok}
use Rattle.op_msg.proofs.pieces.put_behind.Goals as goal

pub returns-then-chunk-capacity-clause-ok : goal.returns-then-chunk-capacity-clause-ok
returns-then-chunk-capacity-clause-ok c =
    on_ok c.extend_from_slice.result c.extend_from_slice.new.self.items _ _
    (longer_last c.args.pieces.now.items c.in-Some.last.now c.extend_from_slice.new.self c.args.chunk.now _
    (omega (arith, c.in-Some.ensures.item.3.0)) c.in-Some.ensures.item.1)
    c.extend_from_slice.ensures.items
