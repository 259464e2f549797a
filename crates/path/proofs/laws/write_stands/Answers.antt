use Rattle.path.specs.PlaceLaws.{write_stands}
use Rattle.path.proofs.laws.write_stands.Goals as goal

pub returns : goal.returns
returns c = write_stands
