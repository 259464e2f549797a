use Rattle.std.proofs.Common.{◌≡◌, ◌+◌, ◌*◌, drop}
use Rattle.filter.specs.Condition.{weight, weights}
use Rattle.filter.specs.View.{condition_of, conditions_of}
use Rattle.filter.specs.Matches.{all_hold, any_holds, whole}
use Rattle.filter.proofs.raw_matching.+raw_matching.Given as goal

abbrev pub decreases-all_hold : goal.decreases-all_hold
decreases-all_hold l = 2 * weights l.filter.now + 1

abbrev pub decreases-any_holds : goal.decreases-any_holds
decreases-any_holds l = 2 * weights l.filter.now + 1

abbrev pub decreases-holds : goal.decreases-holds
decreases-holds l = 2 * weight (condition_of l.condition.now)

abbrev pub invariant-all_hold-conditions : goal.invariant-all_hold-conditions
invariant-all_hold-conditions l =
    all_hold (conditions_of (drop l.condition-index l.condition-items)) (whole l.document) ≡ all_hold (conditions_of l.condition-items) (whole l.document)

abbrev pub invariant-any_holds-conditions : goal.invariant-any_holds-conditions
invariant-any_holds-conditions l =
    any_holds (conditions_of (drop l.condition-index l.condition-items)) (whole l.document) ≡ any_holds (conditions_of l.condition-items) (whole l.document)
