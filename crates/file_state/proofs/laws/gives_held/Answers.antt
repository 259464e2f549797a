use Rattle.file_state.proofs.HeldRead.{gives_held}
use Rattle.file_state.proofs.laws.gives_held.Goals as goal

pub returns : goal.returns
returns c = gives_held
