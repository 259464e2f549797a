use Rattle.sort.proofs.SortLemmas.{sorts_in_parts}
use Rattle.sort.proofs.laws.sorts_in_parts.Goals as goal

pub returns : goal.returns
returns c = sorts_in_parts
