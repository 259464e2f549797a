use Rattle.std.proofs.Common.{map, subst}
use Rattle.outcome.specs.Outcome.{Gives}
use Rattle.path.specs.declared.refusal.Refusal.TheVariants as refusals
use Rattle.update_model.specs.Applying.{apply_edits}
use Rattle.update.specs.Moving.{all_moved}
use Rattle.update.specs.View.{edit_of}
use Rattle.update.proofs.MovingLemmas.{edit_on, edit_stops, edits_done}
use Rattle.update.proofs.StepLemmas.{refused}
use Rattle.update.proofs.moving.move_all.Goals as goal

pub edits-preserved : goal.edits-preserved
edits-preserved c =
    edit_on (all_moved c.edits.moving) (apply_edits (map edit_of c.args.edits.now) c.args.document) c.args.edits.now c.edits.edit-index c.edits.invariant
    c.edit-item.result (all_moved c.in_ok-moving.moving) c.edits-test.true c.edit-item.is c.in_ok-moving.ensures

pub returns-in_err-moving : goal.returns-in_err-moving
returns-in_err-moving c =
    refused (λ d. d) _ c.from_residual.result c.in_err-moving.field-0.0 c.from_residual.ensures.1
    (λ known. edit_stops (all_moved c.edits.moving) (apply_edits (map edit_of c.args.edits.now) c.args.document) c.args.edits.now c.edits.edit-index
    c.edits.invariant c.edit-item.result c.in_err-moving.field-0.0 c.edits-test.true c.edit-item.is (c.in_err-moving.ensures known))

pub returns : goal.returns
returns c =
    subst (Gives refusals.OutOfMemory (λ d. d) c.into_document.result)
    (edits_done (all_moved c.edits.moving) (apply_edits (map edit_of c.args.edits.now) c.args.document) c.args.edits.now c.edits.edit-index
    c.edits.invariant c.edits-test.false) c.into_document.ensures
