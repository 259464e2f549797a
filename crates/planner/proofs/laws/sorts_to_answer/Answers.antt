use Rattle.planner.proofs.AnswerLemmas.{sorts_to_answer}
use Rattle.planner.proofs.laws.sorts_to_answer.Goals as goal

pub returns : goal.returns
returns c = sorts_to_answer
