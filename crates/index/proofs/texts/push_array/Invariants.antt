use Rattle.std.proofs.Common.{◌≡◌, drop, map}
use Rattle.bson.specs.View.{items_of}
use Rattle.path.specs.Reach.{items_list}
use Rattle.value_order.specs.Order.{value}
use Rattle.index.specs.View.{texts_of}
use Rattle.index.specs.Steps.{with_texts}
use Rattle.index.proofs.texts.push_array.Given as goal

abbrev pub invariant-items : goal.invariant-items
invariant-items l =
    with_texts l.direction (texts_of l.texts.items) (map value (items_list (items_of (drop l.item-index l.item-items))))
    ≡ with_texts l.direction (texts_of l.fn.texts.items) (map value (items_list l.array))
