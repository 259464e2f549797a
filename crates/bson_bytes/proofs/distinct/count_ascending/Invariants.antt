use Rattle.std.proofs.Common.{length}
use Rattle.bson_bytes.proofs.DistinctLaws.{Ascending}
use Rattle.bson_bytes.proofs.distinct.count_ascending.Given as goal

abbrev pub decreases-names : goal.decreases-names
decreases-names g l = length l.rest

abbrev pub invariant-names : goal.invariant-names
invariant-names g l = Ascending g.P.NamedParts.names l.count l.last l.rest l.bytes
