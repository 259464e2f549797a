-- What edits put at a key.
use Rattle.std.proofs.Common.{◌≡◌, ℕ, List, [], ◌∷◌, Option, Some, refl, ap, subst, ◌∙◌}
use Rattle.std.specs.Prelude.{if◌then◌else◌, unwrap_or}
use Rattle.std.specs.Ordering.{is_eq, ordering_reverse}
use Rattle.std.specs.declared.cmp.Ordering.{Ordering}
use Rattle.std.specs.declared.cmp.Ordering.TheVariants.{Less, Equal, Greater}
use Rattle.std.proofs.lemmas.Map.Lookups.{exact_bytes}
use Rattle.tree_model.specs.Keys.{edit_keys}
use Rattle.tree_model.specs.Keys.{Each, Edit, IsUnder, Rises, key_cmp, value_at}
use Rattle.entries.specs.EditList.{PutWhatTheyHave, edit_at}
use Rattle.entries.proofs.EditLemmas.{change_value, turned, value_after}

-- a key below all of them is edited by none
none_under : (key : List ℕ) (es : List Edit) (v : Option (List ℕ)) → Each (λ l. IsUnder key l) (edit_keys es) → value_after key es v ≡ v
none_under key [] v h = refl
none_under key (e ∷ es) v h =
    let more : key_cmp e.key key ≡ Greater = turned e.key key ∙ ap ordering_reverse h.0 in
    ap (λ (o : Ordering). value_after key es (if is_eq o then e.value else v)) more ∙ none_under key es v h.1

pub after_edits : (key : List ℕ) (es : List Edit) (v : Option (List ℕ)) → Rises (edit_keys es) → value_after key es v ≡ unwrap_or (edit_at key es) v
after_edits key [] v h = refl
after_edits key (e ∷ es) v h = by (key_cmp e.key key) refl (after_edits key es v h.1)
  where
    passed : key_cmp e.key key ≡ Equal → Each (λ l. IsUnder e.key l) (edit_keys es) → value_after key es e.value ≡ e.value
    passed same above = none_under key es e.value (subst (λ (k : List ℕ). Each (λ l. IsUnder k l) (edit_keys es)) (exact_bytes e.key key same) above)

    by : (o : Ordering) → key_cmp e.key key ≡ o → value_after key es v ≡ unwrap_or (edit_at key es) v
        → value_after key es (if is_eq o then e.value else v) ≡ unwrap_or (if is_eq o then Some e.value else edit_at key es) v
    by Less is rest = rest
    by Equal is rest = passed is h.0
    by Greater is rest = rest

pub put_what_they_have : PutWhatTheyHave
put_what_they_have edits entries key h = change_value key edits entries ∙ after_edits key edits (value_at key entries) h
