use Rattle.drivers.proofs.AskedLaws.{heard_as_wanted}
use Rattle.drivers.proofs.laws.ends_as_wanted.Goals as goal

pub returns : goal.returns
returns c = heard_as_wanted
