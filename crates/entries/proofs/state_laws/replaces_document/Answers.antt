use Rattle.entries.proofs.ReplacingSteps.{replaces_document}
use Rattle.entries.proofs.state_laws.replaces_document.Goals as goal

pub returns : goal.returns
returns c = replaces_document
