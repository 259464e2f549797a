use Rattle.path.specs.PlaceLaws.{write_keeps_others}
use Rattle.path.proofs.laws.write_keeps_others.Goals as goal

pub returns : goal.returns
returns c = write_keeps_others
