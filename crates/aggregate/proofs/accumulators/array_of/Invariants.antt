use Rattle.std.proofs.Common.{◌≡◌}
use Rattle.bson.specs.Tree.{append_items}
use Rattle.bson.specs.View.{items_of}
use Rattle.aggregate.proofs.accumulators.array_of.Given as goal

abbrev pub invariant-values : goal.invariant-values
invariant-values l = append_items l.array (items_of l.value-iterator.rest.items) ≡ items_of l.fn.values.items
