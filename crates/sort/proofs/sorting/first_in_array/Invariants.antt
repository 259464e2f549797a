use Rattle.std.proofs.Common.{◌≡◌, drop, map}
use Rattle.std.specs.Prelude.{option_map}
use Rattle.bson.specs.View.{items_of}
use Rattle.path.specs.Reach.{items_list}
use Rattle.value_order.specs.Order.{value}
use Rattle.value_order.specs.View.{key_of}
use Rattle.sort.specs.SortKeys.{first_of}
use Rattle.sort.proofs.sorting.first_in_array.Given as goal

abbrev pub invariant-items : goal.invariant-items
invariant-items l =
    first_of l.descending (option_map key_of l.found) (map value (items_list (items_of (drop l.item-index l.item-items))))
    ≡ first_of l.descending (option_map key_of l.fn.found) (map value (items_list l.array))
