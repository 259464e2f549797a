use Rattle.engine.proofs.LawfulSteps.{steps}
use Rattle.engine.proofs.laws.stays_lawful.Goals as goal

pub returns : goal.returns
returns c world connection body h = (steps world connection body h).lawful
