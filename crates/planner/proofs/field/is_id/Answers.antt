use Rattle.std.proofs.Common.{sym, ap, ◌∙◌, codes, [], ◌∷◌}
use Rattle.plan_model.specs.Usable.{is_path}
use Rattle.planner.proofs.FieldLemmas.{not_alone}
use Rattle.planner.proofs.field.is_id.Goals as goal

pub returns-else-is_empty : goal.returns-else-is_empty
returns-else-is_empty c =
    c.if-is_empty.false
    ∙ sym (not_alone (codes "_id") c.split_first.result.0.now c.split_first.result.1.now (sym c.is_empty.ensures ∙ c.if-is_empty.false))
    ∙ ap (is_path (codes "_id" ∷ [])) c.split_first.ensures
