use Rattle.entries.proofs.DocumentSteps.{deletes_document}
use Rattle.entries.proofs.state_laws.deletes_document.Goals as goal

pub returns : goal.returns
returns c = deletes_document
