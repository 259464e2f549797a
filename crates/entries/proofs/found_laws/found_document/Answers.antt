use Rattle.entry_model.proofs.FoundLawLemmas.{found_document}
use Rattle.entries.proofs.found_laws.found_document.Goals as goal

pub returns : goal.returns
returns c = found_document
