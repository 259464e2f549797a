use Rattle.std.proofs.Common.{◌∙◌}
use Rattle.driver_messages.proofs.SeekingLemmas.{one_step, no_step}
use Rattle.driver_messages.proofs.seeking.seek.Goals as goal

pub returns-in-Found : goal.returns-in-Found
returns-in-Found c =
    one_step c.args.most c.steps._step c.steps.place c.steps.rest.now _ c.steps-test.true (rw c.in-Found.is at c.in_ok-after.ensures) ∙ c.steps.invariant

pub returns-in-Ended : goal.returns-in-Ended
returns-in-Ended c =
    one_step c.args.most c.steps._step c.steps.place c.steps.rest.now _ c.steps-test.true (rw c.in-Ended.is at c.in_ok-after.ensures) ∙ c.steps.invariant

pub steps-preserved : goal.steps-preserved
steps-preserved c =
    one_step c.args.most c.steps._step c.steps.place c.steps.rest.now _ c.steps-test.true (rw c.in-On.is at c.in_ok-after.ensures) ∙ c.steps.invariant

pub returns : goal.returns
returns c = no_step c.args.most c.steps._step c.steps.place c.steps.rest.now c.steps-test.false ∙ c.steps.invariant
