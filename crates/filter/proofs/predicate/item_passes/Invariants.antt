use Rattle.std.proofs.Common.{◌≡◌, drop}
use Rattle.std.specs.List.{list_any}
use Rattle.bson.specs.View.{items_of}
use Rattle.path.specs.Reach.{items_list}
use Rattle.filter.specs.Matches.{candidate_passes}
use Rattle.filter.specs.View.{predicate_of}
use Rattle.filter.proofs.predicate.item_passes.Given as goal

abbrev pub invariant-items : goal.invariant-items
invariant-items l =
    list_any (candidate_passes (predicate_of l.predicate)) (items_list (items_of (drop l.item-index l.items)))
    ≡ list_any (candidate_passes (predicate_of l.predicate)) (items_list (items_of l.items))
