use Rattle.std.proofs.Common.{◌≡◌, ◌+◌, ◌*◌, drop}
use Rattle.bson.specs.Tree.{count, count_pairs, count_items, append_items}
use Rattle.bson.specs.View.{tree, items_of}
use Rattle.aggregate_model.specs.PathValue.{path_value, each_by_field}
use Rattle.aggregate.proofs.path_value.+path_values.Given as goal

abbrev pub decreases-of_value : goal.decreases-of_value
decreases-of_value l = 3 * count (tree l.value.now) + 1

abbrev pub decreases-by_field : goal.decreases-by_field
decreases-by_field l = 3 * count (tree l.value.now)

abbrev pub decreases-of_field : goal.decreases-of_field
decreases-of_field l = 3 * count_pairs l.source.now + 2

abbrev pub decreases-of_items : goal.decreases-of_items
decreases-of_items l = 3 * count_items l.array.now + 2

abbrev pub invariant-of_items-items : goal.invariant-of_items-items
invariant-of_items-items l =
    append_items (items_of l.items.items) (each_by_field (path_value l.rest) l.part (items_of (drop l.item-index l.item-items)))
    ≡ each_by_field (path_value l.rest) l.part l.array
