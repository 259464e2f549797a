use Rattle.entries.proofs.BatchLaws.{goes_on_behind}
use Rattle.entries.proofs.batch_laws.goes_on_behind.Goals as goal

pub returns : goal.returns
returns c = goes_on_behind
