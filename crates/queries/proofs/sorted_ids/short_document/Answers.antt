use Rattle.std.proofs.Common.{◌∷◌, ℕ, List, ap, ◌∙◌}
use Rattle.bson.specs.View.{pairs_of}
use Rattle.queries.proofs.SortedIdLemmas.{short_begun, short_further, short_whole}
use Rattle.queries.proofs.sorted_ids.short_document.Goals as goal

pub fields-init : goal.fields-init
fields-init c =
    short_begun c.fields-field-items.result.now c.args.document.now c.from_pairs-short.result c.take_over.new.part
    (c.from_pairs-short.ensures ∙ ap pairs_of c.in_ok-room.ensures.items) c.in_ok-take_over.ensures.part c.in_ok-take_over.ensures.same
    c.in_ok-take_over.ensures.only

pub fields-preserved : goal.fields-preserved
fields-preserved c =
    let f = c.field-item.result in
    let rest : List (List ℕ) = c.split_first.result.1.now in
    short_further c.fields-field-items.result.now c.fields.field-index f c.as_str.result.now rest c.args.document.now c.fields.short
    c.take_over-in-fields.new.part c.fields-test.true c.field-item.is (ap (λ (n : List ℕ). n ∷ rest) c.as_str.ensures.name ∙ c.split_first.ensures)
    c.in_ok-take_over-2.ensures.kept c.in_ok-take_over-2.ensures.part c.in_ok-take_over-2.ensures.same
    c.in_ok-take_over-2.ensures.only c.fields.invariant

pub returns : goal.returns
returns c =
    short_whole c.fields-field-items.result.now c.args.sort.now c.fields.field-index c.args.document.now c.fields.short c.fields-field-items.ensures
    c.fields-test.false c.fields.invariant
