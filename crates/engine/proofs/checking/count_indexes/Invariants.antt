use Rattle.std.proofs.Common.{◌≡◌, ◌+◌, drop, map}
use Rattle.opening.specs.Totals.{total_indexes}
use Rattle.opening.specs.Loading.{named_as}
use Rattle.engine.proofs.checking.count_indexes.Given as goal

abbrev pub invariant-names : goal.invariant-names
invariant-names l = l.count + total_indexes (map named_as (drop l.name-index l.names)) ≡ total_indexes (map named_as l.names)
