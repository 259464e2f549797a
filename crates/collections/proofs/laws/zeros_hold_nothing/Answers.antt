use Rattle.collections.proofs.LawLemmas as laws
use Rattle.collections.proofs.laws.zeros_hold_nothing.Goals as goal

pub returns : goal.returns
returns c = laws.zeros_hold_nothing
