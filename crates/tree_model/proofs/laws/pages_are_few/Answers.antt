use Rattle.tree_model.proofs.CapacityLemmas.{pages_are_few}
use Rattle.tree_model.proofs.laws.pages_are_few.Goals as goal

pub returns : goal.returns
returns c = pages_are_few
