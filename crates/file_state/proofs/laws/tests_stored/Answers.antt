use Rattle.file_state.proofs.StoredTested.{tests_stored}
use Rattle.file_state.proofs.laws.tests_stored.Goals as goal

pub returns : goal.returns
returns c = tests_stored
