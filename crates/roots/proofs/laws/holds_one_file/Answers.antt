use Rattle.roots.proofs.HeldFileLemmas as held
use Rattle.roots.proofs.laws.holds_one_file.Goals as goal

pub returns : goal.returns
returns c = held.holds_one_file
