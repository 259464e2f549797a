use Rattle.index.proofs.OrderLaws.{entries_order}
use Rattle.index.proofs.laws.entries_order.Goals as goal

pub returns : goal.returns
returns c = entries_order
