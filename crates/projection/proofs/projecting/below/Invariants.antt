use Rattle.std.proofs.Common.{◌≡◌, ◌++◌, drop, map}
use Rattle.projection.specs.Projection.{below}
use Rattle.projection.proofs.projecting.below.Given as goal

abbrev pub invariant-paths : goal.invariant-paths
invariant-paths l = map (λ p. p.now) l.found.items ++ below l.name (map (λ p. p.now) (drop l.path-index l.paths)) ≡ below l.name (map (λ p. p.now) l.paths)
