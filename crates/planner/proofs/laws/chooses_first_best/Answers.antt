use Rattle.planner.proofs.ChoiceLemmas.{chooses_first_best}
use Rattle.planner.proofs.laws.chooses_first_best.Goals as goal

pub returns : goal.returns
returns c = chooses_first_best
