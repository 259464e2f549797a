use Rattle.std.proofs.Common.{◌∙◌, sym}
use Rattle.driver_sockets.proofs.ReplyingLemmas.{framed_long, refusal_fits}
use Rattle.driver_sockets.proofs.socket.frame.Goals as goal

pub framed-made-requires : goal.framed-made-requires
framed-made-requires c = refusal_fits c.in_ok-refusal_document.field-0 c.in_ok-refusal_document.ensures

pub returns : goal.returns
returns c =
    framed_long c.framed-made.result c.args.form c.args.reply_no c.args.number c.args.step.now c.in_ok-refusal_document.field-0
    c.in_ok-refusal_document.ensures (sym c.is_short.ensures.room ∙ c.if-is_short.false) c.framed-made.ensures
