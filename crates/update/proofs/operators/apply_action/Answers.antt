use Rattle.std.proofs.Common.{sym, ap, subst, ◌∙◌}
use Rattle.bson.specs.View.{items_of}
use Rattle.path.specs.Edits.{write_at}
use Rattle.outcome.specs.Outcome.{Gives}
use Rattle.update_model.specs.Arrays.{pushed}
use Rattle.update_model.specs.Operators.{apply_action}
use Rattle.update.specs.View.{action_of}
use Rattle.path.specs.declared.refusal.Refusal.TheVariants as refusals
use Rattle.update.proofs.operators.apply_action.Goals as goal

pub returns-in-Push : goal.returns-in-Push
returns-in-Push c =
    let same = ap (λ vs. write_at (pushed (items_of vs)) c.args.path.now c.args.document) c.deref.ensures.value
    ∙ sym (ap (λ a. apply_action c.args.path.now (action_of a) c.args.document) c.in-Push.is) in
    subst (λ planned. Gives refusals.OutOfMemory (λ d. d) c.write_new-in-Push.result planned) same c.write_new-in-Push.ensures
