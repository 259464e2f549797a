use Rattle.bson_bytes.proofs.TreeLaws as laws
use Rattle.bson_bytes.proofs.laws.one_spelling.Goals as goal

pub returns : goal.returns
returns c = λ a b x y ps qs s u e. laws.one_spelling a b x y ps qs s u e
