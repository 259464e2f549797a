use Rattle.entry_model.proofs.ShortKeys.{short_is_key}
use Rattle.entries.proofs.found_laws.short_is_key.Goals as goal

pub returns : goal.returns
returns c = short_is_key
