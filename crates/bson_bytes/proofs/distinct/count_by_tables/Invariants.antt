use Rattle.std.proofs.Common.{◌≡◌, ◌+◌, ◌≤◌, length, drop}
use Rattle.bson_bytes.specs.RawNames.{AreApart}
use Rattle.bson_bytes.proofs.distinct.count_by_tables.Given as goal

abbrev pub invariant-tables : goal.invariant-tables
invariant-tables g l =
    AreApart l.done l.limit (g.P.NamedParts.names l.bytes) × (g.P.NamedParts.names l.rest ≡ drop l.done (g.P.NamedParts.names l.bytes))
    × (l.done + length l.rest ≤ length l.bytes) × (l.size ≤ 8192)

abbrev pub decreases-tables : goal.decreases-tables
decreases-tables g l = length l.rest + l.size
