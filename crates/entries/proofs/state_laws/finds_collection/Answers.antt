use Rattle.entries.proofs.ReadLaws.{finds_collection}
use Rattle.entries.proofs.state_laws.finds_collection.Goals as goal

pub returns : goal.returns
returns c = finds_collection
