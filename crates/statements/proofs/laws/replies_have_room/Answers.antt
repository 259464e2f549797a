use Rattle.statements.proofs.ReplyRoom.{replies_have_room}
use Rattle.statements.proofs.laws.replies_have_room.Goals as goal

pub returns : goal.returns
returns c = replies_have_room
