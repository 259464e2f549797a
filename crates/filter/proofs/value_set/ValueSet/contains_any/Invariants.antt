use Rattle.std.proofs.Common.{◌≡◌, drop}
use Rattle.std.specs.List.{list_any}
use Rattle.bson.specs.View.{items_of}
use Rattle.path.specs.Reach.{items_list}
use Rattle.filter.specs.Among.{is_among}
use Rattle.filter.proofs.value_set.ValueSet.contains_any.Given as goal

abbrev pub invariant-values : goal.invariant-values
invariant-values l =
    list_any (is_among l.self) (items_list (items_of (drop l.value-index l.values)))
    ≡ list_any (is_among l.self) (items_list (items_of l.values))
