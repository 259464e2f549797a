use Rattle.std.proofs.Common.{◌≡◌, drop}
use Rattle.bson.specs.View.{tree}
use Rattle.path.specs.Place.{value_at}
use Rattle.path.proofs.place.value_below.Given as goal

abbrev pub invariant-parts : goal.invariant-parts
invariant-parts l = value_at (drop l.part-index l.parts) (tree l.value) ≡ value_at l.parts (tree l.initial.value)
