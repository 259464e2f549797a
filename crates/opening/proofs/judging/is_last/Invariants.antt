use Rattle.std.proofs.Common.{◌≡◌, drop, map}
use Rattle.std.specs.List.{list_all}
use Rattle.opening.specs.Judging.{stands_behind}
use Rattle.opening.specs.Loading.{named_as}
use Rattle.opening.proofs.judging.is_last.Given as goal

abbrev pub invariant-each : goal.invariant-each
invariant-each l =
    list_all (stands_behind (named_as l.name)) (map named_as (drop l.other-index l.names)) ≡ list_all (stands_behind (named_as l.name)) (map named_as l.names)
