use Rattle.entry_model.proofs.KeptSteps.{kept_with_index}
use Rattle.entries.proofs.state_laws.kept_with_index.Goals as goal

pub returns : goal.returns
returns c = kept_with_index
