use Rattle.std.proofs.Common.{ap, ◌∙◌}
use Rattle.op_msg.specs.Request.{document_alone, document_in}
use Rattle.driver_sockets.proofs.ReplyingLemmas.{range_behind}
use Rattle.driver_sockets.proofs.taken_replies.document_of.Goals as goal

pub returns-in-Ok : goal.returns-in-Ok
returns-in-Ok c =
    let behind = range_behind c.args.frame.now c.in-Some.body.now 21 c.in-Some.ensures.lookup.0.2 in
    ap document_in behind ∙ ap document_alone c.in-Ok.ensures.gives
