use Rattle.std.proofs.Common.{◌≡◌, drop, map}
use Rattle.std.specs.List.{list_any}
use Rattle.projection.specs.Projection.{is_end}
use Rattle.projection.proofs.projecting.any_ends.Given as goal

abbrev pub invariant-paths : goal.invariant-paths
invariant-paths l = list_any is_end (map (λ p. p.now) (drop l.path-index l.paths)) ≡ list_any is_end (map (λ p. p.now) l.paths)
