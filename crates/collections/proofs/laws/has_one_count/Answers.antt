use Rattle.collections.proofs.CountLemmas as laws
use Rattle.collections.proofs.laws.has_one_count.Goals as goal

pub returns : goal.returns
returns c = laws.has_one_count
