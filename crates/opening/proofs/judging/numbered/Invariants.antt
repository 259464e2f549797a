use Rattle.std.proofs.Common.{◌≡◌, drop, map}
use Rattle.opening.specs.Judging.{numbered}
use Rattle.opening.specs.Loading.{named_as}
use Rattle.opening.proofs.judging.numbered.Given as goal

abbrev pub invariant-each : goal.invariant-each
invariant-each l = numbered l.number (map named_as (drop l.name-index l.names)) ≡ numbered l.number (map named_as l.names)
