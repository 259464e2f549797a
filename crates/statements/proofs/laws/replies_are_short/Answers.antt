use Rattle.statements.proofs.ReplyRoom.{replies_are_short}
use Rattle.statements.proofs.laws.replies_are_short.Goals as goal

pub returns : goal.returns
returns c = replies_are_short
