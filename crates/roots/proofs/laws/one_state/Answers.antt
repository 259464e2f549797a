use Rattle.roots.proofs.OneMap as map
use Rattle.roots.proofs.laws.one_state.Goals as goal

pub returns : goal.returns
returns c = map.one_state
