use Rattle.roots.proofs.HeldFileLemmas as held
use Rattle.roots.proofs.laws.names_the_rest.Goals as goal

pub returns : goal.returns
returns c = held.names_the_rest
