use Rattle.entry_model.proofs.FoundLawLemmas.{field_is_key}
use Rattle.entries.proofs.found_laws.field_is_key.Goals as goal

pub returns : goal.returns
returns c = field_is_key
