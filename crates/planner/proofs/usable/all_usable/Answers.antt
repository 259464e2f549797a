use Rattle.std.proofs.Common.{ap, ◌∙◌}
use Rattle.plan_model.specs.Usable.{or, usable_in, gather}
use Rattle.planner.specs.View.{usable_of}
use Rattle.filter.specs.View.{conditions_of}
use Rattle.planner.proofs.GatherLemmas.{gather_more}
use Rattle.planner.proofs.usable.all_usable.Goals as goal

pub conditions-preserved : goal.conditions-preserved
conditions-preserved c =
    gather_more usable_in c.conditions-condition-items.result.now c.conditions.condition-index c.condition-item.result (usable_of c.conditions.found)
    (usable_of c.or-found.result)
    (gather usable_in (conditions_of c.conditions-condition-items.result.now)) c.conditions-test.true c.condition-item.is
    (c.or-found.ensures ∙ ap (or (usable_of c.conditions.found)) c.usable_in.ensures) c.conditions.invariant
