use Rattle.entries.proofs.IndexSteps.{drops_index}
use Rattle.entries.proofs.state_laws.drops_index.Goals as goal

pub returns : goal.returns
returns c = drops_index
