use Rattle.std.proofs.Common.{◌≡◌, drop, Some, [], ◌∷◌}
use Rattle.bson.specs.Lent.{scalar_of}
use Rattle.bson.specs.Tree.{scalar}
use Rattle.filter.specs.Matches.{all_hold, along}
use Rattle.filter.specs.View.{conditions_of}
use Rattle.filter.proofs.raw_matching.all_hold_from.Given as goal

abbrev pub invariant-conditions : goal.invariant-conditions
invariant-conditions l =
    all_hold (conditions_of (drop l.condition-index l.condition-items)) (along (Some (scalar (scalar_of l.value)) ∷ []))
    ≡ all_hold (conditions_of l.condition-items) (along (Some (scalar (scalar_of l.value)) ∷ []))
