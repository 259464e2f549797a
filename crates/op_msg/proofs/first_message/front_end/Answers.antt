use Rattle.op_msg.proofs.WholeLemmas.{too_few}
use Rattle.op_msg.proofs.first_message.front_end.Goals as goal

pub returns-then-bytes-lt4 : goal.returns-then-bytes-lt4
returns-then-bytes-lt4 c = too_few c.args.bytes.now c.if-bytes-lt4.true
