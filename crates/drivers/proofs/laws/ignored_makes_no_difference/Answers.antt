use Rattle.drivers.proofs.AskingLaws.{ignored_makes_no_difference}
use Rattle.drivers.proofs.laws.ignored_makes_no_difference.Goals as goal

pub returns : goal.returns
returns c = ignored_makes_no_difference
