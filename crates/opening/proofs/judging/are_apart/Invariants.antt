use Rattle.std.proofs.Common.{◌≡◌, length}
use Rattle.std.specs.List.{AllByRecursion}
use Rattle.index.specs.Definition.{IsDefinition}
use Rattle.opening.specs.Judging.{are_apart}
use Rattle.opening.proofs.judging.are_apart.Given as goal

abbrev pub invariant-each : goal.invariant-each
invariant-each l = record {
  apart : are_apart l.rest ≡ are_apart l.indexes;
  lawful : AllByRecursion IsDefinition l.rest → AllByRecursion IsDefinition l.indexes;
}

abbrev pub decreases-each : goal.decreases-each
decreases-each l = length l.rest
