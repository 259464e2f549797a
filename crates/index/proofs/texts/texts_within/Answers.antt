use Rattle.std.proofs.Common.{◌≡◌, [], ◌∷◌, ap, ◌∙◌, arith, map}
use Rattle.std.proofs.lemmas.List.{map-append}
use Rattle.index.specs.Steps.{longest}
use Rattle.index.specs.View.{texts_of}
use Rattle.index.proofs.TextLemmas.{field_more, field_refused, field_without_room, refused}
use Rattle.index.proofs.texts.texts_within.Goals as goal

pub returns-in_err-texts : goal.returns-in_err-texts
returns-in_err-texts c =
    refused (λ v. map (λ texts. texts_of texts.items) v.items) _ c.from_residual-in_err-texts.result c.in_err-texts.field-0.0
    c.from_residual-in_err-texts.ensures.1
    (λ known. field_refused c.args.fields.now c.fields.field-index c.field-item.result c.args.source.now c.fields.room _ _ c.fields-test.true c.field-item.is
    c.fields.invariant c.in_err-texts.field-0.0 (c.in_err-texts.ensures known))

pub returns-in_default : goal.returns-in_default
returns-in_default c = λ known.
    let long_is : c.longest.result ≡ longest (texts_of c.in_ok-texts.texts.items) =
    c.longest.ensures ∙ ap (λ ts. longest (texts_of ts)) c.deref.ensures.value in
    field_without_room c.args.fields.now c.fields.field-index c.field-item.result c.args.source.now c.fields.room _ _ c.fields-test.true c.field-item.is
    c.fields.invariant (texts_of c.in_ok-texts.texts.items) c.in_ok-texts.ensures (omega (arith, long_is, c.in_default.ensures))

pub fields-preserved : goal.fields-preserved
fields-preserved c =
    let long_is : c.longest.result ≡ longest (texts_of c.in_ok-texts.texts.items) =
    c.longest.ensures ∙ ap (λ ts. longest (texts_of ts)) c.deref.ensures.value in
    field_more c.args.fields.now c.fields.field-index c.field-item.result c.args.source.now c.fields.room
    (map (λ texts. texts_of texts.items) c.fields.all.items) _ c.fields-test.true c.field-item.is
    c.fields.invariant (texts_of c.in_ok-texts.texts.items) _ c.in-Some.left c.in_ok-texts.ensures (omega (arith, long_is, c.in-Some.ensures.0))
    (omega (arith, long_is, c.in-Some.ensures.1)) (ap (map (λ texts. texts_of texts.items)) c.in_ok-push.ensures.items
    ∙ map-append (λ texts. texts_of texts.items) c.fields.all.items (c.in_ok-texts.texts ∷ []))
