use Rattle.engine.proofs.LawfulSteps.{steps}
use Rattle.engine.proofs.laws.replies_sendable.Goals as goal

pub returns : goal.returns
returns c world connection body h = (steps world connection body h).sendable
