use Rattle.collections.proofs.LawLemmas as files
use Rattle.engine.proofs.laws.holds_one.Goals as goal

pub returns : goal.returns
returns c image a b one other = files.holds_one image a b one.file other.file
