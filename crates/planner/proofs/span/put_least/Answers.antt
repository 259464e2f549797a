use Rattle.std.proofs.Common.{ℕ, List, ◌++◌, sym, ap, ◌∙◌}
use Rattle.std.specs.Prelude.{option_map}
use Rattle.value_order.specs.declared.texts.Direction.{Direction}
use Rattle.planner.specs.KeySpan.{least_end}
use Rattle.plan_model.specs.Plan.{fields_of}
use Rattle.planner.specs.View.{bound_of, field_of, index_of}
use Rattle.planner.proofs.SpanTextLemmas.{on_ok_more, nothing_put, least_here}
use Rattle.planner.proofs.span.put_least.Goals as goal

pub returns-in_default : goal.returns-in_default
returns-in_default c =
    nothing_put (option_map bound_of c.args.low) (option_map bound_of c.args.high) (fields_of (index_of c.args.index)) c.args.place c.args.out.now.items
    (sym (ap (option_map field_of) c.in_default.is) ∙ c.field_at.ensures.field)

pub returns-in-Ascending : goal.returns-in-Ascending
returns-in-Ascending c =
    let low = option_map bound_of c.args.low in
    let high = option_map bound_of c.args.high in
    on_ok_more c.put_end.result
    (λ put. put ∙ ap (λ (text : List ℕ). c.args.out.now.items ++ text)
    (ap (λ (d : Direction). least_end d low high) (sym c.in-Ascending.is ∙ c.direction.ensures)
    ∙ least_here low high (fields_of (index_of c.args.index)) c.args.place (field_of c.in-Some.field)
    (sym (ap (option_map field_of) c.in-Some.is) ∙ c.field_at.ensures.field)))
    c.put_end.ensures

pub returns-in-Descending : goal.returns-in-Descending
returns-in-Descending c =
    let low = option_map bound_of c.args.low in
    let high = option_map bound_of c.args.high in
    on_ok_more c.put_end-in-Descending.result
    (λ put. put ∙ ap (λ (text : List ℕ). c.args.out.now.items ++ text)
    (ap (λ (d : Direction). least_end d low high) (sym c.in-Descending.is ∙ c.direction.ensures)
    ∙ least_here low high (fields_of (index_of c.args.index)) c.args.place (field_of c.in-Some.field)
    (sym (ap (option_map field_of) c.in-Some.is) ∙ c.field_at.ensures.field)))
    c.put_end-in-Descending.ensures
