use Rattle.std.proofs.Common.{◌≡◌, drop}
use Rattle.bson.specs.Tree.{append_items}
use Rattle.bson.specs.View.{items_of}
use Rattle.update.proofs.arrays.with_items.Given as goal

abbrev pub invariant-values : goal.invariant-values
invariant-values l =
    append_items l.array (items_of (drop l.value-index l.values)) ≡ append_items l.initial.array (items_of l.values)
