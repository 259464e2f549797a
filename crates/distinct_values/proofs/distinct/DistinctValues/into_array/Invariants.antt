use Rattle.std.proofs.Common.{◌≡◌}
use Rattle.bson.specs.Tree.{append_items}
use Rattle.distinct_values.specs.DistinctValues.{items_from}
use Rattle.distinct_values.proofs.distinct.DistinctValues.into_array.Given as goal

abbrev pub invariant-values : goal.invariant-values
invariant-values l = append_items l.array (items_from l.value-iterator) ≡ items_from l.fn.self
