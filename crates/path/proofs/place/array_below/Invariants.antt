use Rattle.std.proofs.Common.{◌≡◌, drop}
use Rattle.bson.specs.View.{tree}
use Rattle.path.specs.Place.{passes_array}
use Rattle.path.proofs.place.array_below.Given as goal

abbrev pub invariant-parts : goal.invariant-parts
invariant-parts l = passes_array (drop l.part-index l.parts) (tree l.value) ≡ passes_array l.parts (tree l.initial.value)
