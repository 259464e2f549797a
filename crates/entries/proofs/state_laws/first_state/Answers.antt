use Rattle.entries.proofs.RowLaws.{first_state}
use Rattle.entries.proofs.state_laws.first_state.Goals as goal

pub returns : goal.returns
returns c = first_state
