use Rattle.message_laws.proofs.MessageSizes.{updates_have_room}
use Rattle.message_laws.proofs.laws.updates_have_room.Goals as goal

pub returns : goal.returns
returns c = updates_have_room
