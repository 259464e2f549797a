use Rattle.engine.proofs.EmptyImage.{zeros_hold_nothing}
use Rattle.engine.proofs.laws.zeros_hold_nothing.Goals as goal

pub returns : goal.returns
returns c image even odd = zeros_hold_nothing image even odd
