use Rattle.file_state.proofs.FileTested.{stands_tested}
use Rattle.file_state.proofs.laws.stands.Goals as goal

pub returns : goal.returns
returns c = stands_tested
