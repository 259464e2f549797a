-- Paths in the order read, and a set of the same paths.
use Rattle.std.specs.Prelude.{◌≡◌, List}
use Rattle.std.specs.List.{list_any}
use Rattle.path.specs.Parts.{meets}
use Rattle.projection.specs.Projection.{Path}

-- what meets one of these meets one of those, and the other way round
abbrev pub AreMetAlike : List Path → List Path → Type 0
AreMetAlike these those = (path : Path) → list_any (meets path) these ≡ list_any (meets path) those
