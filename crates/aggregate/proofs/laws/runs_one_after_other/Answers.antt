use Rattle.aggregate.proofs.LawLemmas.{runs_one_after_other}
use Rattle.aggregate.proofs.laws.runs_one_after_other.Goals as goal

pub returns : goal.returns
returns c = runs_one_after_other
