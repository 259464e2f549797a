use Rattle.std.proofs.Common.{◌≡◌, ℕ, suc, ◌+◌, Bool, List, drop, map, sym, ap, ◌∙◌, arith}
use Rattle.std.specs.Prelude.{option_map, ◌&&◌}
use Rattle.sort.specs.Sort.{SortField}
use Rattle.sort.specs.SortKeys.{field_of as sort_field_of}
use Rattle.plan_model.specs.Plan.{fields_of, sorts_as}
use Rattle.planner.specs.View.{field_of, index_of}
use Rattle.planner.proofs.FieldLemmas.{sorts_on, sorts_past, sorts_all}
use Rattle.planner.proofs.field.sorts_as.Goals as goal

pub returns-in_default : goal.returns-in_default
returns-in_default c =
    sym (sorts_past sort_field_of c.fields-fields.result.now (fields_of (index_of c.args.index)) c.fields.place c.fields-test.true
    (sym (ap (option_map field_of) c.in_default.is) ∙ c.field_at.ensures.field))
    ∙ c.fields.invariant
    ∙ ap (λ (fields : List SortField). sorts_as fields (fields_of (index_of c.args.index))) c.fields-fields.ensures

pub returns-then-not-sorts_as : goal.returns-then-not-sorts_as
returns-then-not-sorts_as c =
    let fields = fields_of (index_of c.args.index) in
    let rest = sorts_as (map sort_field_of (drop (suc c.fields.place) c.fields-fields.result.now)) (drop (suc c.fields.place) fields) in
    ap (λ (b : Bool). b && rest) (sym c.if-not-sorts_as.true ∙ c.sorts_as.ensures)
    ∙ sym (sorts_on sort_field_of c.fields-fields.result.now fields c.fields.place c.index-fields-place.result
    (field_of c.in-Some.field) c.fields-test.true c.index-fields-place.is
    (sym (ap (option_map field_of) c.in-Some.is) ∙ c.field_at.ensures.field))
    ∙ c.fields.invariant
    ∙ ap (λ (sort : List SortField). sorts_as sort fields) c.fields-fields.ensures

pub fields-preserved : goal.fields-preserved
fields-preserved c =
    let fields = fields_of (index_of c.args.index) in
    let items = c.fields-fields.result.now in
    let next : c.fields.place + 1 ≡ suc c.fields.place = omega arith in
    ap (λ (n : ℕ). sorts_as (map sort_field_of (drop n items)) (drop n fields)) next
    ∙ ap (λ (b : Bool). b && sorts_as (map sort_field_of (drop (suc c.fields.place) items)) (drop (suc c.fields.place) fields))
    (sym c.if-not-sorts_as.false ∙ c.sorts_as.ensures)
    ∙ sym (sorts_on sort_field_of items fields c.fields.place c.index-fields-place.result (field_of c.in-Some.field) c.fields-test.true c.index-fields-place.is
    (sym (ap (option_map field_of) c.in-Some.is) ∙ c.field_at.ensures.field))
    ∙ c.fields.invariant

pub returns : goal.returns
returns c =
    let fields = fields_of (index_of c.args.index) in
    sorts_all sort_field_of field_of c.fields-fields.result.now fields c.fields.place c.field_at-2.result c.is_none.result c.fields-test.false
    c.fields.auto.place-end
    c.field_at-2.ensures.field c.is_none.ensures
    ∙ c.fields.invariant
    ∙ ap (λ (sort : List SortField). sorts_as sort fields) c.fields-fields.ensures
