use Rattle.entry_model.proofs.LawfulParts.{id_is_key}
use Rattle.entries.proofs.found_laws.stored_is_key.Goals as goal

pub returns : goal.returns
returns c = id_is_key
