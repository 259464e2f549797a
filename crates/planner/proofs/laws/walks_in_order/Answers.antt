use Rattle.planner.proofs.SortedLemmas.{walks_in_order}
use Rattle.planner.proofs.laws.walks_in_order.Goals as goal

pub returns : goal.returns
returns c = walks_in_order
