use Rattle.driver_sockets.proofs.FrameLaws.{questions_are_messages}
use Rattle.driver_sockets.proofs.laws.questions_are_messages.Goals as goal

pub returns : goal.returns
returns c = questions_are_messages
