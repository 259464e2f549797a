use Rattle.entries.proofs.ReadLaws.{finds_document}
use Rattle.entries.proofs.state_laws.finds_document.Goals as goal

pub returns : goal.returns
returns c = finds_document
