use Rattle.std.proofs.Common.{◌≡◌, ◌≤◌, drop}
use Rattle.bson.specs.Lawful.{items_levels}
use Rattle.bson.specs.View.{items_of}
use Rattle.path.specs.Reach.{items_list}
use Rattle.distinct_values.specs.DistinctValues.{with_values}
use Rattle.distinct_values.proofs.distinct.DistinctValues.add_items.Given as goal

abbrev pub invariant-items : goal.invariant-items
invariant-items l = record {
  left : with_values l.self (items_list (items_of (drop l.item-index l.items))) ≡ with_values l.initial.self (items_list (items_of l.items));
  flat : items_levels (items_of (drop l.item-index l.items)) ≤ 98;
}
