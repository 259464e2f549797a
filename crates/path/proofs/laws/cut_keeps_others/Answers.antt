use Rattle.path.specs.PlaceLaws.{cut_keeps_others}
use Rattle.path.proofs.laws.cut_keeps_others.Goals as goal

pub returns : goal.returns
returns c = cut_keeps_others
