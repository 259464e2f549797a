use Rattle.file_state.proofs.CollectionsRead.{reads_collections}
use Rattle.file_state.proofs.laws.reads_collections.Goals as goal

pub returns : goal.returns
returns c = reads_collections
