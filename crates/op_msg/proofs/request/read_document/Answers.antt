use Rattle.std.proofs.Common.{ap}
use Rattle.op_msg.specs.Request.{document_alone}
use Rattle.op_msg.proofs.request.read_document.Goals as goal

pub returns-in-Ok : goal.returns-in-Ok
returns-in-Ok c = ap document_alone c.in-Ok.ensures.gives
