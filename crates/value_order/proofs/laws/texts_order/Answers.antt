use Rattle.value_order.proofs.KeyLaws.{texts_order}
use Rattle.value_order.proofs.laws.texts_order.Goals as goal

pub returns : goal.returns
returns c = texts_order
