use Rattle.entry_model.proofs.KeptSteps.{kept_noted}
use Rattle.entries.proofs.state_laws.kept_noted.Goals as goal

pub returns : goal.returns
returns c = kept_noted
