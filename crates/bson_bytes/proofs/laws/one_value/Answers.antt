use Rattle.bson_bytes.proofs.TreeLaws as laws
use Rattle.bson_bytes.proofs.laws.one_value.Goals as goal

pub returns : goal.returns
returns c = λ t u x y first second same_kind e. laws.one_value t u x y first.lawful second.lawful first.depth second.depth first.short second.short same_kind e
