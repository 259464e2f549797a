-- A key of a document is taken in a unique index exactly where the document clashes with another.
use Rattle.std.proofs.Common.{◌≡◌, inl, inr, ℕ, ◌||◌, ◌&&◌, List, [], ◌∷◌, map, Some, refl, ◌∙◌}
use Rattle.std.specs.Prelude.{Contains}
use Rattle.std.specs.List.{list_any}
use Rattle.bson.specs.Tree.{Pairs}
use Rattle.tree_model.specs.Keys.{Entry}
use Rattle.value_order.specs.KeyText.{tree_text}
use Rattle.index.specs.Changes.{is_among}
use Rattle.index.specs.Definition.{Definition}
use Rattle.entry_model.specs.Entering.{clashes, is_other, share_key}
use Rattle.index.specs.KeyTexts.{encoded_keys}
use Rattle.entry_model.specs.LawfulState.{IsStorable}
use Rattle.entries.specs.OtherKeys.{another_has}
use Rattle.entry_model.specs.State.{Collection, find_collection, key_of}
use Rattle.entry_model.specs.StateReads.{SpellsLawful}
use Rattle.entry_model.proofs.MemberLemmas.{Among, contains_of}
use Rattle.entries.proofs.OtherKeyLaws.{tells_other_key}
use Rattle.entries.proofs.SharedKeyLemmas.{is_there, swapped}
use Rattle.collections.specs.OtherKeys.{any_other_key, is_taken}

module _ (entries : List Entry) (cs : List Collection) (c : Collection) (d : Pairs) (spells : SpellsLawful entries cs)
    (found : find_collection cs c.name ≡ Some c) (good : IsStorable d) where
  abbrev id : List ℕ
  id = tree_text (key_of d)

  -- some keys of it in an index, one after the other
  keys_told : (i : Definition) → Contains c.indexes i → (keys : List (List ℕ)) → ((key : List ℕ) → Among key keys → Among key (encoded_keys i.fields d))
      → any_other_key c.number i.number id keys entries ≡ list_any (λ key. another_has i key (key_of d) c.documents) keys
  keys_told i listed [] within = refl
  keys_told i listed (key ∷ keys) within =
      let first = tells_other_key entries cs c i d key spells found listed good (is_there (encoded_keys i.fields d) key (within key (inl refl))) in
      let rest = keys_told i listed keys (λ k there. within k (inr there)) in
      λ t. first t || rest t

  index_told : (i : Definition) → Contains c.indexes i
      → any_other_key c.number i.number id (encoded_keys i.fields d) entries ≡ list_any (λ e. is_other d e && share_key i.fields d e) c.documents
  index_told i listed =
      keys_told i listed (encoded_keys i.fields d) (λ key there. there)
      ∙ swapped (λ (e : Pairs) (key : List ℕ). is_among (encoded_keys i.fields e) key) (is_other d) (encoded_keys i.fields d) c.documents

  all_told : (is : List Definition) → ((i : Definition) → Among i is → Contains c.indexes i)
      → is_taken c.number id is (map (λ i. encoded_keys i.fields d) is) entries ≡ list_any (clashes c.documents d) is
  all_told [] within = refl
  all_told (i ∷ is) within =
      let first = index_told i (within i (inl refl)) in
      let rest = all_told is (λ j there. within j (inr there)) in
      λ t. (i.is_unique && first t) || rest t

  pub taken_told : is_taken c.number id c.indexes (map (λ i. encoded_keys i.fields d) c.indexes) entries ≡ list_any (clashes c.documents d) c.indexes
  taken_told = all_told c.indexes (λ i there. contains_of c.indexes i there)
