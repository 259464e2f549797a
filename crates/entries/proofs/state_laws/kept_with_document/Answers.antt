use Rattle.entry_model.proofs.KeptSteps.{kept_with_document}
use Rattle.entries.proofs.state_laws.kept_with_document.Goals as goal

pub returns : goal.returns
returns c = kept_with_document
