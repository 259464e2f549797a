use Rattle.collections.proofs.LawLemmas as laws
use Rattle.collections.proofs.laws.holds_one.Goals as goal

pub returns : goal.returns
returns c = laws.holds_one
