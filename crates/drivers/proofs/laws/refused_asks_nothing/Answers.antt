use Rattle.drivers.proofs.AskedLaws.{refused_asks_nothing}
use Rattle.drivers.proofs.laws.refused_asks_nothing.Goals as goal

pub returns : goal.returns
returns c = refused_asks_nothing
