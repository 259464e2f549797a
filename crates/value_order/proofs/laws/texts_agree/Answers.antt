use Rattle.value_order.proofs.KeyLaws.{texts_agree}
use Rattle.value_order.proofs.laws.texts_agree.Goals as goal

pub returns : goal.returns
returns c = texts_agree
