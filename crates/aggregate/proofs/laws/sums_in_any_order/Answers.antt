use Rattle.aggregate.proofs.SumLemmas.{sums_in_any_order}
use Rattle.aggregate.proofs.laws.sums_in_any_order.Goals as goal

pub returns : goal.returns
returns c = sums_in_any_order
