use Rattle.file_state.proofs.EntriesRead.{reads_entries}
use Rattle.file_state.proofs.laws.reads_entries.Goals as goal

pub returns : goal.returns
returns c = reads_entries
