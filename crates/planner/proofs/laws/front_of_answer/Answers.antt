use Rattle.planner.proofs.AnswerLemmas.{front_of_answer}
use Rattle.planner.proofs.laws.front_of_answer.Goals as goal

pub returns : goal.returns
returns c = front_of_answer
