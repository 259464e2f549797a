use Rattle.planner.proofs.AnswerLemmas.{ordered_once}
use Rattle.planner.proofs.laws.ordered_once.Goals as goal

pub returns : goal.returns
returns c = ordered_once
