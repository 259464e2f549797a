use Rattle.std.proofs.Common.{ℕ, ◌-◌, length, arith}
use Rattle.bson_bytes.proofs.PlainTexts.{plain_step, plain_text}
use Rattle.bson_bytes.proofs.frames.is_plain.Goals as goal

pub bytes-preserved : goal.bytes-preserved
bytes-preserved c = plain_step c.args.bytes.now c.bytes.at c.bytes.invariant (c.are_plain.ensures c.if-not-are_plain.false)

pub returns : goal.returns
returns c = λ e.
    plain_text c.args.bytes.now c.bytes.at (length c.args.bytes.now - 16) (omega (arith, c.if-bytes-lt16.false)) c.bytes-test.false
    c.bytes.invariant (c.are_plain-2.ensures e)
