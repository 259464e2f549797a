use Rattle.std.proofs.Common.{ap, ◌∙◌}
use Rattle.filter.specs.View.{conditions_of}
use Rattle.path.specs.Parts.{parts_of}
use Rattle.plan_model.specs.Usable.{or, usable_there, gather}
use Rattle.planner.specs.View.{usable_of, field_of}
use Rattle.planner.proofs.GatherLemmas.{gather_more}
use Rattle.planner.proofs.field.Field.usable.Goals as goal

pub conditions-preserved : goal.conditions-preserved
conditions-preserved c =
    let give = usable_there (parts_of (field_of c.args.self).path) in
    gather_more give c.conditions-condition-items.result.now c.conditions.condition-index c.condition-item.result (usable_of c.conditions.found)
    (usable_of c.or-found.result)
    (gather give (conditions_of c.conditions-condition-items.result.now)) c.conditions-test.true c.condition-item.is
    (c.or-found.ensures ∙ ap (or (usable_of c.conditions.found)) c.usable_there.ensures) c.conditions.invariant
