use Rattle.bson_bytes.proofs.PlainTexts.{lanes_plain}
use Rattle.bson_bytes.proofs.frames.are_plain.Goals as goal

pub returns : goal.returns
returns c = λ e. lanes_plain c.args.bytes.now c.args.at c.requires e
