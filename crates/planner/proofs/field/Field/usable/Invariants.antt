use Rattle.std.proofs.Common.{◌≡◌, drop}
use Rattle.filter.specs.View.{conditions_of}
use Rattle.path.specs.Parts.{parts_of}
use Rattle.plan_model.specs.Usable.{or, usable_there, gather}
use Rattle.planner.specs.View.{usable_of, field_of}
use Rattle.planner.proofs.field.Field.usable.Given as goal

abbrev pub invariant-conditions : goal.invariant-conditions
invariant-conditions l =
    or (usable_of l.found) (gather (usable_there (parts_of (field_of l.self).path)) (conditions_of (drop l.condition-index l.condition-items)))
    ≡ gather (usable_there (parts_of (field_of l.self).path)) (conditions_of l.condition-items)
