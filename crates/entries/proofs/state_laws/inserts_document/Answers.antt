use Rattle.entries.proofs.DocumentSteps.{inserts_document}
use Rattle.entries.proofs.state_laws.inserts_document.Goals as goal

pub returns : goal.returns
returns c = inserts_document
