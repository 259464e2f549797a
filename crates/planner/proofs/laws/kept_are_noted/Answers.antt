use Rattle.planner.proofs.AnswerLemmas.{kept_are_noted}
use Rattle.planner.proofs.laws.kept_are_noted.Goals as goal

pub returns : goal.returns
returns c = kept_are_noted
