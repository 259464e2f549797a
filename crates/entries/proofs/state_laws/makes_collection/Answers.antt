use Rattle.entries.proofs.CollectionSteps.{makes_collection}
use Rattle.entries.proofs.state_laws.makes_collection.Goals as goal

pub returns : goal.returns
returns c = makes_collection
