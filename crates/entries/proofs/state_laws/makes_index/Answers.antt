use Rattle.entries.proofs.IndexSteps.{makes_index}
use Rattle.entries.proofs.state_laws.makes_index.Goals as goal

pub returns : goal.returns
returns c = makes_index
