use Rattle.file_state.proofs.HoldingTested.{some_tested}
use Rattle.file_state.proofs.laws.holds_some.Goals as goal

pub returns : goal.returns
returns c = some_tested
