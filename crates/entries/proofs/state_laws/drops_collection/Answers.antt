use Rattle.entries.proofs.CollectionSteps.{drops_collection}
use Rattle.entries.proofs.state_laws.drops_collection.Goals as goal

pub returns : goal.returns
returns c = drops_collection
