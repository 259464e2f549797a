use Rattle.std.proofs.Common.{◌≡◌, ◌≤◌, true, false, Option, Some, length, inr, refl, sym, ap, subst, ◌∙◌, arith}
use Rattle.std.specs.Prelude.{ℕ, List, IfSome, IsUtf8, string_bytes}
use Rattle.std.specs.List.{AllByRecursion}
use Rattle.std.specs.Option.{option_map}
use Rattle.std.proofs.lemmas.List.{length-map}
use Rattle.bson.specs.Spelling.{frame_of, pairs_bytes}
use Rattle.value_order.specs.KeyText.{tree_text}
use Rattle.tree_model.specs.Keys.{Entry}
use Rattle.index.specs.Definition.{Definition, IsDefinition}
use Rattle.entry_model.specs.State.{words}
use Rattle.entry_model.specs.StateEntries.{catalogue_value, key_under}
use Rattle.opening.specs.Judging.{are_apart}
use Rattle.opening.specs.Loading.{named_as}
use Rattle.opening.proofs.JudgingLemmas.{apart_there, bare_lawful}
use Rattle.opening.proofs.judging.name_at.Goals as goal

some_same : {X : Type 0} {x y : X} → ◌≡◌ {A = Option X} (Some x) (Some y) → x ≡ y
some_same e = cc

some_pair : (a b : ℕ) (is js : List Definition) → ◌≡◌ {A = Option (ℕ × List Definition)} (Some (a, is)) (Some (b, js)) → is ≡ js
some_pair a b is js e = ap (λ (p : ℕ × List Definition). p.1) (some_same e)

pub returns-then-not-are_apart : goal.returns-then-not-are_apart
returns-then-not-are_apart c =
    inr (
      refl,
      λ n is.
          let read = c.in_ok-told.ensures.reads n is.kept (c.deref-2.ensures.value ∙ ap (λ (p : Entry). p.value) is.pair_is) in
          let told : Some (c.in-Some-2.told.number, c.in-Some-2.told.indexes.items) ≡ Some (n.number, n.indexes) =
          ap (option_map {U = ℕ × List Definition} (λ e. (e.number, e.indexes.items))) (sym c.in-Some-2.is) ∙ read in
          let same : c.in-Some-2.told.indexes.items ≡ n.indexes = some_pair c.in-Some-2.told.number n.number c.in-Some-2.told.indexes.items n.indexes told in
          let never : false ≡ true =
          sym c.if-not-are_apart.true ∙ c.are_apart.ensures.apart ∙ ap are_apart (c.deref-3.ensures.value ∙ same) ∙ apart_there n.indexes is.kept.distinct in
          absurd cc,
    )

pub returns : goal.returns
returns c =
    let key = subst
    (λ found. IfSome found (λ s. c.deref.result.now ≡ key_under 0 0 (tree_text (words (string_bytes s))))) c.in-Some.is c.in_ok-namespace.ensures.only in
    let told =
    subst (λ found. IfSome found
    (λ e. (1 ≤ e.number) × (e.number ≤ 1000) × (length e.indexes.items ≤ 16)
    × (c.deref-2.result.now ≡ frame_of (pairs_bytes (catalogue_value e.number e.indexes.items))))) c.in-Some-2.is c.in_ok-told.ensures.only in
    let is = c.in-Some-2.told.indexes.items in
    let apart : are_apart c.in-Some-2.told.indexes.items ≡ true =
    ap are_apart (sym c.deref-3.ensures.value) ∙ sym c.are_apart.ensures.apart ∙ c.if-not-are_apart.false in
    record {
      pair_is = λ i. record { key = (sym c.deref.ensures.value ∙ key) i; value = (sym c.deref-2.ensures.value ∙ told.3) i };
      plain = refl;
      kept = bare_lawful (string_bytes c.in-Some.namespace) c.in-Some-2.told.number c.in-Some-2.told.indexes.items
          (subst IsUtf8 c.as_str.ensures.value c.text_len.ensures.text)
          (omega (arith, c.if-text_len-gt-NAMESPACE_LIMIT.false, c.text_len.ensures.len, ap length c.as_str.ensures.value))
          told.0 told.1 told.2
          (subst (λ (ds : List Definition). AllByRecursion IsDefinition ds) c.deref-3.ensures.value (c.are_apart.ensures.lawful c.if-not-are_apart.false))
          apart;
      behind = sym c.if-not-is_last.ensures;
      room = omega (arith, c.if-names-ge-MOST_COLLECTIONS.false, length-map c.args.names.now named_as);
    }
