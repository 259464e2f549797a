use Rattle.entries.proofs.EditOrderLaws.{order_is_free}
use Rattle.entries.proofs.state_laws.order_is_free.Goals as goal

pub returns : goal.returns
returns c = order_is_free
