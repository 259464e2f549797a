use Rattle.std.proofs.Common.{◌≡◌, drop}
use Rattle.filter.specs.View.{conditions_of}
use Rattle.plan_model.specs.Usable.{or, usable_in, gather}
use Rattle.planner.specs.View.{usable_of}
use Rattle.planner.proofs.usable.all_usable.Given as goal

abbrev pub invariant-conditions : goal.invariant-conditions
invariant-conditions l =
    or (usable_of l.found) (gather usable_in (conditions_of (drop l.condition-index l.condition-items)))
    ≡ gather usable_in (conditions_of l.condition-items)
