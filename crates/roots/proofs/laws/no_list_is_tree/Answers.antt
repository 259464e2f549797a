use Rattle.roots.proofs.HeldFileLemmas as held
use Rattle.roots.proofs.laws.no_list_is_tree.Goals as goal

pub returns : goal.returns
returns c = held.no_list_is_tree
