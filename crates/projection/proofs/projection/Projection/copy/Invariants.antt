use Rattle.std.proofs.Common.{◌≡◌, take}
use Rattle.projection.proofs.projection.Projection.copy.Given as goal

abbrev pub invariant-paths : goal.invariant-paths
invariant-paths l = l.paths.items ≡ take l.path-index l.path-items
