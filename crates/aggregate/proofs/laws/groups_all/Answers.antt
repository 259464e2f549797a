use Rattle.aggregate.proofs.LawLemmas.{groups_all}
use Rattle.aggregate.proofs.laws.groups_all.Goals as goal

pub returns : goal.returns
returns c = groups_all
