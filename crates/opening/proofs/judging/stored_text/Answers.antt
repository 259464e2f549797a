use Rattle.std.proofs.Common.{◌≡◌, false, Option, Some, None, refl, sym, ap, ◌∙◌, arith, length}
use Rattle.std.specs.Prelude.{is_some}
use Rattle.std.specs.Option.{option_map}
use Rattle.bson.specs.View.{tree}
use Rattle.opening.proofs.StoredTextLemmas.{is_stored}
use Rattle.opening.proofs.judging.stored_text.Goals as goal

none_of : {X : Type 0} (o : Option X) → is_some o ≡ false → o ≡ None
none_of None is = refl
none_of (Some x) is = absurd cc

pub returns-in-Ok : goal.returns-in-Ok
returns-in-Ok c =
    let limits = sym c.limits_fault.ensures ∙ none_of c.limits_fault.result (sym c.if-is_some.ensures) in
    let names = sym c.names_fault.ensures ∙ none_of c.names_fault.result (sym c.if-is_some-2.ensures) in
    let placed = sym c.position.ensures ∙ c.in-Some-eq0.is ∙ ap Some c.in-Some-eq0.field-0-test in
    let id = sym c.id_of.ensures ∙ ap (option_map (λ v. tree v.now)) c.in-Some.is in
    let text = c.in-Ok.ensures.text in
    let stored =
    is_stored c.args.document.now (tree c.in-Some.id.now) limits names c.levels-levels.ensures.lawful placed id
    (omega (arith, c.in-Ok.ensures.short, ap length text)) in
    (stored.0, text ∙ stored.1)
