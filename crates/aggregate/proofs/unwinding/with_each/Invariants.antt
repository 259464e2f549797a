use Rattle.std.proofs.Common.{◌≡◌, drop}
use Rattle.bson.specs.View.{items_of}
use Rattle.path.specs.Reach.{items_list}
use Rattle.aggregate_model.specs.Each.{behind, each}
use Rattle.aggregate_model.specs.Unwind.{with_element}
use Rattle.aggregate.proofs.unwinding.with_each.Given as goal

abbrev pub invariant-elements : goal.invariant-elements
invariant-elements l =
    behind l.given.items (each (with_element l.path l.shell) (items_list (items_of (drop l.element-index l.element-items))))
    ≡ behind l.initial.given.items (each (with_element l.path l.shell) (items_list l.array))
