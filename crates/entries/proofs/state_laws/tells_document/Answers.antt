use Rattle.entries.proofs.TellingLaws.{tells_document}
use Rattle.entries.proofs.state_laws.tells_document.Goals as goal

pub returns : goal.returns
returns c = tells_document
