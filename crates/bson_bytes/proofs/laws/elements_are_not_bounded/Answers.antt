use Rattle.bson_bytes.proofs.FirstFaultLaws.{pairs_unbounded, items_unbounded}
use Rattle.bson_bytes.proofs.laws.elements_are_not_bounded.Goals as goal

pub returns-clause-pairs : goal.returns-clause-pairs
returns-clause-pairs c = pairs_unbounded

pub returns-clause-items : goal.returns-clause-items
returns-clause-items c = items_unbounded
