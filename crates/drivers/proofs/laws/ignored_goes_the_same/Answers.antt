use Rattle.drivers.proofs.AskedLaws.{ignored_goes_the_same}
use Rattle.drivers.proofs.laws.ignored_goes_the_same.Goals as goal

pub returns : goal.returns
returns c = ignored_goes_the_same
