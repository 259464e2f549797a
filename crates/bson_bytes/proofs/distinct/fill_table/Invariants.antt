use Rattle.std.proofs.Common.{◌≡◌, ◌+◌, ◌≤◌, ◌++◌, length, take}
use Rattle.bson_bytes.proofs.TableLaws.{lent}
use Rattle.bson_bytes.proofs.distinct.fill_table.Given as goal

abbrev pub invariant-loop-count : goal.invariant-loop-count
invariant-loop-count g l =
    (g.P.NamedParts.names l.bytes ≡ lent (take l.count l.table) ++ g.P.NamedParts.names l.rest) × (l.count + length l.rest ≤ length l.bytes)
