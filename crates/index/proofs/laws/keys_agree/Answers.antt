use Rattle.index.proofs.OrderLaws.{keys_agree}
use Rattle.index.proofs.laws.keys_agree.Goals as goal

pub returns : goal.returns
returns c = keys_agree
