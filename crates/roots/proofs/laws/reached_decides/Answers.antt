use Rattle.roots.proofs.HeldFileLemmas as held
use Rattle.roots.proofs.laws.reached_decides.Goals as goal

pub returns : goal.returns
returns c = held.reached_decides
