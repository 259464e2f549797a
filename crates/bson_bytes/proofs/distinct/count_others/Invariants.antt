use Rattle.std.proofs.Common.{◌≡◌, ◌+◌, ◌≤◌, length, drop}
use Rattle.bson_bytes.specs.RawNames.{AreOthers}
use Rattle.bson_bytes.proofs.TableLaws.{lent}
use Rattle.bson_bytes.proofs.distinct.count_others.Given as goal

abbrev pub invariant-names : goal.invariant-names
invariant-names g l =
    AreOthers l.count (lent l.table) (g.P.NamedParts.names l.bytes) × (g.P.NamedParts.names l.rest ≡ drop l.count (g.P.NamedParts.names l.bytes))
    × (l.count + length l.rest ≤ length l.bytes) × (l.count ≤ l.most)

abbrev pub decreases-names : goal.decreases-names
decreases-names g l = length l.rest
