use Rattle.bson_bytes.specs.RawNames.{AreNew}
use Rattle.bson_bytes.proofs.TableLaws.{lent}
use Rattle.bson_bytes.proofs.distinct.count_new.Given as goal

abbrev pub invariant-names : goal.invariant-names
invariant-names l = AreNew l.at (lent l.names)
