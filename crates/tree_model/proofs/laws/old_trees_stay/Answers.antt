use Rattle.tree_model.proofs.OnceLemmas.{old_trees_stay}
use Rattle.tree_model.proofs.laws.old_trees_stay.Goals as goal

pub returns : goal.returns
returns c = old_trees_stay
