use Rattle.std.proofs.Common.{◌≡◌, ◌+◌, ◌*◌, ◌≤◌, length, drop}
use Rattle.bson.specs.Tree.{count, count_pairs, count_items}
use Rattle.bson.specs.View.{tree, pairs_of, items_of}
use Rattle.value_order.specs.Order.{pairs_cmp, items_cmp}
use Rattle.value_order.proofs.order.+comparing.Given as goal

abbrev pub decreases-compare_content : goal.decreases-compare_content
decreases-compare_content l = 3 * count (tree l.a.now)

abbrev pub decreases-compare : goal.decreases-compare
decreases-compare l = 3 * count (tree l.a.now) + 1

abbrev pub decreases-compare_pairs : goal.decreases-compare_pairs
decreases-compare_pairs l = 3 * count_pairs (pairs_of l.a.now) + 2

abbrev pub decreases-compare_items : goal.decreases-compare_items
decreases-compare_items l = 3 * count_items (items_of l.a.now) + 2

abbrev pub invariant-compare_pairs-pairs : goal.invariant-compare_pairs-pairs
invariant-compare_pairs-pairs l = record {
  within : l.i ≤ length l.b;
  same : pairs_cmp (pairs_of (drop l.i l.a)) (pairs_of (drop l.i l.b)) ≡ pairs_cmp (pairs_of l.a) (pairs_of l.b);
}

abbrev pub invariant-compare_items-items : goal.invariant-compare_items-items
invariant-compare_items-items l = record {
  within : l.i ≤ length l.b;
  same : items_cmp (items_of (drop l.i l.a)) (items_of (drop l.i l.b)) ≡ items_cmp (items_of l.a) (items_of l.b);
}
