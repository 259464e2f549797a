use Rattle.planner.proofs.AnswerLemmas.{never_changes_answer}
use Rattle.planner.proofs.laws.never_changes_answer.Goals as goal

pub returns : goal.returns
returns c = never_changes_answer
