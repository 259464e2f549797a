use Rattle.index.proofs.OneKeyLaws.{one_key}
use Rattle.index.proofs.laws.one_key.Goals as goal

pub returns : goal.returns
returns c = one_key
