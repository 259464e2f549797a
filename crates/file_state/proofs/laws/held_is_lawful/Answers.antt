use Rattle.file_state.proofs.HeldRead.{held_is_lawful}
use Rattle.file_state.proofs.laws.held_is_lawful.Goals as goal

pub returns : goal.returns
returns c = held_is_lawful
