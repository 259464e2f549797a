use Rattle.entry_model.proofs.KeptSteps.{kept_without_document}
use Rattle.entries.proofs.state_laws.kept_without_document.Goals as goal

pub returns : goal.returns
returns c = kept_without_document
