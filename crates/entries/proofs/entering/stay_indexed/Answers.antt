use Rattle.entry_model.proofs.EnteringLemmas.{stay_indexed}
use Rattle.entries.proofs.entering.stay_indexed.Goals as goal

pub returns : goal.returns
returns c = stay_indexed
