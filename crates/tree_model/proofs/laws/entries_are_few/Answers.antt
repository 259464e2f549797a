use Rattle.tree_model.proofs.CapacityLemmas.{entries_are_few}
use Rattle.tree_model.proofs.laws.entries_are_few.Goals as goal

pub returns : goal.returns
returns c = entries_are_few
