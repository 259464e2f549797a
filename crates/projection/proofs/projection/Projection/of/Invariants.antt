use Rattle.std.proofs.Common.{◌≡◌, take, map}
use Rattle.projection.proofs.projection.Projection.of.Given as goal

abbrev pub invariant-paths : goal.invariant-paths
invariant-paths l = map (λ p. p.now) l.paths.items ≡ take l.path-index l.path-items
