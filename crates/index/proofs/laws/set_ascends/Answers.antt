use Rattle.index.proofs.SetLaws.{set_ascends}
use Rattle.index.proofs.laws.set_ascends.Goals as goal

pub returns : goal.returns
returns c = set_ascends
