use Rattle.value_order.proofs.KeyLaws.{none_begins}
use Rattle.value_order.proofs.laws.none_begins.Goals as goal

pub returns : goal.returns
returns c = none_begins
