use Rattle.file_state.proofs.StoredTested.{gives_stored}
use Rattle.file_state.proofs.laws.gives_stored.Goals as goal

pub returns : goal.returns
returns c = gives_stored
