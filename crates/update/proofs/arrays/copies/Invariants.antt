use Rattle.std.proofs.Common.{◌≡◌, drop}
use Rattle.bson.specs.Tree.{append_items}
use Rattle.bson.specs.View.{items_of}
use Rattle.update.proofs.arrays.copies.Given as goal

abbrev pub invariant-values : goal.invariant-values
invariant-values l = append_items (items_of l.all.items) (items_of (drop l.value-index l.values)) ≡ items_of l.values
