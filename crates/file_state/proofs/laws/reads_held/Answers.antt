use Rattle.file_state.proofs.CollectionsRead.{reads_held}
use Rattle.file_state.proofs.laws.reads_held.Goals as goal

pub returns : goal.returns
returns c = reads_held
