use Rattle.path.specs.PlaceLaws.{cut_absent}
use Rattle.path.proofs.laws.cut_absent.Goals as goal

pub returns : goal.returns
returns c = cut_absent
