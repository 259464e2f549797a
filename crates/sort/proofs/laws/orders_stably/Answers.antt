use Rattle.sort.proofs.SortLemmas.{orders_stably}
use Rattle.sort.proofs.laws.orders_stably.Goals as goal

pub returns : goal.returns
returns c = orders_stably
