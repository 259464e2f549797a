use Rattle.std.proofs.Common.{◌≡◌, ◌≤◌, ◌+◌, ◌*◌, ◌++◌, length, drop}
use Rattle.bson.specs.Tree.{count, count_pairs, count_items}
use Rattle.bson.specs.View.{tree, pairs_of, items_of}
use Rattle.value_order.specs.KeyText.{pairs_text, items_text}
use Rattle.value_order.proofs.texts.+writing.Given as goal

abbrev pub decreases-put_content : goal.decreases-put_content
decreases-put_content l = 3 * count (tree l.value.now)

abbrev pub decreases-put_value : goal.decreases-put_value
decreases-put_value l = 3 * count (tree l.value.now) + 1

abbrev pub decreases-put_pairs : goal.decreases-put_pairs
decreases-put_pairs l = 3 * count_pairs (pairs_of l.pairs.now) + 2

abbrev pub decreases-put_items : goal.decreases-put_items
decreases-put_items l = 3 * count_items (items_of l.items.now) + 2

abbrev pub invariant-put_pairs-pairs : goal.invariant-put_pairs-pairs
invariant-put_pairs-pairs l = record {
  room : length l.out.items ≤ l.limit;
  same : l.out.items ++ pairs_text (pairs_of (drop l.pair-index l.pairs)) ≡ l.initial.out.items ++ pairs_text (pairs_of l.pairs);
}

abbrev pub invariant-put_items-items : goal.invariant-put_items-items
invariant-put_items-items l = record {
  room : length l.out.items ≤ l.limit;
  same : l.out.items ++ items_text (items_of (drop l.item-index l.items)) ≡ l.initial.out.items ++ items_text (items_of l.items);
}
