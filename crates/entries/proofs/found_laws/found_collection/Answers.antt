use Rattle.entry_model.proofs.FoundLawLemmas.{found_collection}
use Rattle.entries.proofs.found_laws.found_collection.Goals as goal

pub returns : goal.returns
returns c = found_collection
