use Rattle.std.proofs.Common.{sym, ap, ◌∙◌}
use Rattle.std.specs.Prelude.{option_map}
use Rattle.plan_model.specs.Plan.{fields_of}
use Rattle.planner.specs.View.{field_of, index_of}
use Rattle.planner.proofs.FieldLemmas.{asked_here, asked_nowhere}
use Rattle.planner.proofs.field.asked_at.Goals as goal

pub returns-in-Some-clause-asked : goal.returns-in-Some-clause-asked
returns-in-Some-clause-asked c =
    c.usable.ensures
    ∙ asked_here c.args.filter.now (fields_of (index_of c.args.index)) c.args.place (field_of c.in-Some.field)
    (sym (ap (option_map field_of) c.in-Some.is) ∙ c.field_at.ensures.field)

pub returns-in-None-clause-asked : goal.returns-in-None-clause-asked
returns-in-None-clause-asked c =
    c.nothing.ensures
    ∙ asked_nowhere c.args.filter.now (fields_of (index_of c.args.index)) c.args.place
    (sym (ap (option_map field_of) c.in-None.is) ∙ c.field_at.ensures.field)
