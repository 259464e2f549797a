use Rattle.std.proofs.Common.{◌≡◌, map, take}
use Rattle.bson.specs.View.{tree}
use Rattle.filter.proofs.value_set.copies.Given as goal

abbrev pub invariant-values : goal.invariant-values
invariant-values l = map tree l.copied.items ≡ map tree (take l.value-index l.values)
