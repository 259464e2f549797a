use Rattle.entry_model.proofs.FoundLawLemmas.{without_put}
use Rattle.entries.proofs.found_laws.without_put.Goals as goal

pub returns : goal.returns
returns c = without_put
