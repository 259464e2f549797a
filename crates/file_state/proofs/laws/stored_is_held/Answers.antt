use Rattle.file_state.proofs.HoldingTested.{stored_is_held}
use Rattle.file_state.proofs.laws.stored_is_held.Goals as goal

pub returns : goal.returns
returns c = stored_is_held
