use Rattle.entries.proofs.IndexSteps.{notes_indexes}
use Rattle.entries.proofs.state_laws.notes_indexes.Goals as goal

pub returns : goal.returns
returns c = notes_indexes
