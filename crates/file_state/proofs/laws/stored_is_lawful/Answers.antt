use Rattle.file_state.proofs.StoredTested.{stored_is_lawful}
use Rattle.file_state.proofs.laws.stored_is_lawful.Goals as goal

pub returns : goal.returns
returns c = stored_is_lawful
