use Rattle.freelist.proofs.LeastLaws.{takes_least}
use Rattle.freelist.proofs.laws.takes_least.Goals as goal

pub returns : goal.returns
returns c = takes_least
