use Rattle.drivers.proofs.AskedLaws.{keeps_what_is_asked}
use Rattle.drivers.proofs.laws.keeps_what_is_asked.Goals as goal

pub returns : goal.returns
returns c = keeps_what_is_asked
