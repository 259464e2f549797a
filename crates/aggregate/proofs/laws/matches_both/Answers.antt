use Rattle.aggregate.proofs.LawLemmas.{matches_both}
use Rattle.aggregate.proofs.laws.matches_both.Goals as goal

pub returns : goal.returns
returns c = matches_both
