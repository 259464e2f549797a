use Rattle.std.proofs.Common.{◌≡◌, ℕ, List, [], ◌∷◌, map, Some, None, Ok, ap, sym, ◌∙◌}
use Rattle.std.specs.Prelude.{option_map, if◌then◌else◌}
use Rattle.outcome.specs.Outcome.{unless}
use Rattle.path.specs.declared.refusal.Refusal.TheVariants as refusals
use Rattle.index.specs.Definition.{Field}
use Rattle.index.specs.KeyTexts.{is_too_long, ascending_set, encoded_keys}
use Rattle.index.specs.View.{texts_of}
use Rattle.index.specs.Steps.{combined, texts_within}
use Rattle.index.proofs.TextLemmas.{refused}
use Rattle.index.proofs.LengthLemmas.{texts_found, all_texts}
use Rattle.index.proofs.CombinationLemmas.{combined_is}
use Rattle.index.proofs.RefusalLemmas.{passed, held_back}
use Rattle.index.proofs.definition.IndexSpec.keys_unless_parallel.Goals as goal

pub returns-in_err-texts-clause-gives : goal.returns-in_err-texts-clause-gives
returns-in_err-texts-clause-gives c =
    let fs = c.args.self.now.fields in
    let ps = c.args.source.now in
    refused (option_map (λ v. texts_of v.items)) _ c.from_residual.result c.in_err-texts.field-0.0 c.from_residual.ensures.1
    (λ known. held_back (is_too_long fs ps) refusals.KeyTooLong c.in_err-texts.field-0.0 (all_texts fs ps) _
    (sym (texts_found fs ps) ∙ sym (ap (λ (gs : List Field). texts_within 500 [] gs ps) c.fields.ensures.fields) ∙ c.in_err-texts.ensures known))

pub returns-then-has_parallel_arrays-clause-gives : goal.returns-then-has_parallel_arrays-clause-gives
returns-then-has_parallel_arrays-clause-gives c =
    let fs = c.args.self.now.fields in
    let ps = c.args.source.now in
    let found = passed (is_too_long fs ps) refusals.KeyTooLong (all_texts fs ps) (map (λ texts. texts_of texts.items) c.in_ok-texts.texts.items)
    (sym (texts_found fs ps) ∙ sym (ap (λ (gs : List Field). texts_within 500 [] gs ps) c.fields.ensures.fields) ∙ c.in_ok-texts.ensures) in
    λ i. unless (found.0 i) refusals.KeyTooLong (Ok (if sym c.if-has_parallel_arrays.ensures i then None else Some (encoded_keys fs ps)))

pub returns-clause-gives : goal.returns-clause-gives
returns-clause-gives c =
    let fs = c.args.self.now.fields in
    let ps = c.args.source.now in
    let found = passed (is_too_long fs ps) refusals.KeyTooLong (all_texts fs ps) (map (λ texts. texts_of texts.items) c.in_ok-texts.texts.items)
    (sym (texts_found fs ps) ∙ sym (ap (λ (gs : List Field). texts_within 500 [] gs ps) c.fields.ensures.fields) ∙ c.in_ok-texts.ensures) in
    let keys : encoded_keys fs ps ≡ texts_of c.ascending.result.items =
    ap ascending_set (sym (combined_is fs ps) ∙ ap (λ (all : List (List (List ℕ))). combined all ([] ∷ [])) found.1 ∙ sym c.in_ok-combined.ensures)
    ∙ sym c.ascending.ensures.set in
    λ i. unless (found.0 i) refusals.KeyTooLong (Ok (if sym c.if-has_parallel_arrays.ensures i then None else Some (keys i)))
