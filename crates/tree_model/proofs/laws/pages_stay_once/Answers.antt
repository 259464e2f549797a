use Rattle.tree_model.proofs.OnceLemmas.{pages_stay_once}
use Rattle.tree_model.proofs.laws.pages_stay_once.Goals as goal

pub returns : goal.returns
returns c = pages_stay_once
