use Rattle.std.proofs.Common.{sym, ap, ◌∙◌, arith}
use Rattle.op_msg.specs.Frame.{is_no_length}
use Rattle.op_msg.proofs.WholeLemmas.{no_message, not_whole, is_whole}
use Rattle.op_msg.proofs.first_message.message_end.Goals as goal

pub returns-then-is_no_length : goal.returns-then-is_no_length
returns-then-is_no_length c bytes long same count =
    no_message bytes c.args.count long (ap is_no_length same ∙ sym c.is_no_length.ensures ∙ c.if-is_no_length.true) count

pub returns-then-count-len : goal.returns-then-count-len
returns-then-count-len c bytes long same count =
    not_whole bytes long (ap is_no_length same ∙ sym c.is_no_length.ensures ∙ c.if-is_no_length.false) (omega (arith, same, count, c.if-count-len.true))

pub returns-else-count-len : goal.returns-else-count-len
returns-else-count-len c bytes long same count =
    is_whole bytes c.args.len long (ap is_no_length same ∙ sym c.is_no_length.ensures ∙ c.if-is_no_length.false) same
    (omega (arith, count, c.if-count-len.false))
