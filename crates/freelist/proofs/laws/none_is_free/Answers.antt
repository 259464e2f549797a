use Rattle.freelist.proofs.LeastLaws.{none_is_free}
use Rattle.freelist.proofs.laws.none_is_free.Goals as goal

pub returns : goal.returns
returns c = none_is_free
