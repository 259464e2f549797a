use Rattle.std.proofs.Common.{Result, subst}
use Rattle.bson.specs.View.{tree}
use Rattle.index.specs.Definition.{Field}
use Rattle.outcome.specs.Outcome.{Gives}
use Rattle.path.specs.declared.refusal.Refusal.{Refusal}
use Rattle.path.specs.declared.refusal.Refusal.TheVariants as refusals
use Rattle.value_order.specs.declared.texts.Direction.TheVariants as directions
use Rattle.commands.proofs.NewIndexLemmas.{directed, path_refused}
use Rattle.commands.proofs.new_index.field_in.Goals as goal

pub returns-in_err-field_to-in-Err-clause-gives : goal.returns-in_err-field_to-in-Err-clause-gives
returns-in_err-field_to-in-Err-clause-gives c =
    path_refused _ c.from_residual.result c.args.name.now
    (tree c.args.value.now) directions.Ascending c.in_err-field_to-in-Err.field-0.0 c.from_residual.ensures.1
    c.in_err-field_to-in-Err.ensures.gives

pub returns-in-Ok-clause-gives : goal.returns-in-Ok-clause-gives
returns-in-Ok-clause-gives c =
    subst (λ (r : Result Field Refusal). Gives refusals.OutOfMemory (λ f. f) c.field_to.result r)
    (directed c.args.name.now (tree c.args.value.now) c.in-Ok.direction c.in-Ok.ensures) c.field_to.ensures.gives
