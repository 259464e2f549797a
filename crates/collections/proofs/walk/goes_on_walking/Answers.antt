use Rattle.collections.proofs.WalkLemmas.{goes_on_walking}
use Rattle.collections.proofs.walk.goes_on_walking.Goals as goal

pub returns : goal.returns
returns c = goes_on_walking
