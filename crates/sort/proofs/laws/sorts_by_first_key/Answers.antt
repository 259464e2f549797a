use Rattle.sort.proofs.FirstKeyLemmas.{sorts_by_first_key}
use Rattle.sort.proofs.laws.sorts_by_first_key.Goals as goal

pub returns : goal.returns
returns c = sorts_by_first_key
