use Rattle.entry_model.proofs.FoundLawLemmas.{finds_put}
use Rattle.entries.proofs.found_laws.finds_put.Goals as goal

pub returns : goal.returns
returns c = finds_put
