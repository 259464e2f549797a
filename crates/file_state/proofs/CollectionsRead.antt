-- What is read of entries that spell a lawful state.
use Rattle.std.proofs.Common.{◌≡◌, ℕ, List, [], ◌∷◌, map, codes, Option, Some, None, unwrap_or, inl, inr, refl, sym, ◌∙◌, ap, subst}
use Rattle.bson.specs.Lookup.{lookup}
use Rattle.bson_bytes.specs.Raw.{document_spelled}
use Rattle.bson.specs.Tree.{Pairs}
use Rattle.bson_bytes.proofs.RawLaws.{document_spelled-is}
use Rattle.tree_model.specs.Keys.{Entry}
use Rattle.index.specs.Definition.{Definition}
use Rattle.entry_model.specs.LawfulState.{AreNamedApart, IsStorable}
use Rattle.entry_model.specs.State.{Collection, find_collection}
use Rattle.entry_model.specs.StateEntries.{catalogue_entry, catalogue_value, document_entry}
use Rattle.entry_model.specs.StateReads.{SpellsLawful}
use Rattle.entries.proofs.CatalogueReadLaws.{all_back, kept_lawful, kept_spells}
use Rattle.entry_model.proofs.LawfulParts.{kept_of, storable_of}
use Rattle.entries.proofs.ListingLaws.{lists_collections, lists_documents}
use Rattle.entry_model.proofs.MemberLemmas.{Among}
use Rattle.entry_model.proofs.PlaceLemmas.{found_split, none_without, without_other}
use Rattle.entries.proofs.ReadingLemmas.{name_behind, storable_spells}
use Rattle.file_state.specs.Collections.{collection_told, collections_among, collections_in, documents_told, indexes_of, name_told, number_of}
use Rattle.file_state.specs.Laws.{ReadsCollections, ReadsHeld}
use Rattle.file_state.proofs.EntriesRead.{reads_entries}

-- a collection of a state is found by its name
pub found_there : (cs : List Collection) (c : Collection) → AreNamedApart cs → Among c cs → find_collection cs c.name ≡ Some c
found_there cs c apart there = by (find_collection cs c.name) refl
  where
    by : (o : Option Collection) → find_collection cs c.name ≡ o → find_collection cs c.name ≡ Some c
    by None e = absurd (without_other cs c.name c apart (subst (Among c) (sym (none_without cs c.name e)) there) refl)
    by (Some d) e =
        elim (found_split cs c.name d c e there) [ inl same ↦ e ∙ ap Some (sym same) | inr other ↦ absurd (without_other cs c.name c apart other refl) ]

-- ---- one collection

documents_back : (number : ℕ) (ds : List Pairs) → ((d : Pairs) → Among d ds → IsStorable d)
    → map (λ x. document_spelled x.value) (map (document_entry number) ds) ≡ ds
documents_back number [] h = refl
documents_back number (d ∷ ds) h =
    let value = (document_entry number d).value in
    let one = document_spelled-is value d (storable_spells d value (h d (inl refl)) refl) in
    λ i. one i ∷ documents_back number ds (λ e there. h e (inr there)) i

module _ (entries : List Entry) (cs : List Collection) (h : SpellsLawful entries cs) where
  collection_back : (c : Collection) → Among c cs → collection_told entries (catalogue_entry c) ≡ c
  collection_back c there =
      let kept = kept_of cs c h.lawful there in
      let entry = catalogue_entry c in
      let said : document_spelled entry.value ≡ catalogue_value c.number c.indexes = document_spelled-is entry.value _ (kept_spells c entry.value kept refl) in
      let name : name_told entry.key ≡ c.name = name_behind entry.key c.name refl in
      let number : number_of (lookup (document_spelled entry.value) (codes "n")) ≡ c.number = ap (λ (ps : Pairs). number_of (lookup ps (codes "n"))) said in
      let indexes : indexes_of (lookup (document_spelled entry.value) (codes "x")) ≡ c.indexes =
      ap (λ (ps : Pairs). indexes_of (lookup ps (codes "x"))) said
      ∙ ap (λ (o : Option (List Definition)). unwrap_or o []) (all_back c.indexes (kept_lawful c kept)) in
      let documents : documents_told entries (number_of (lookup (document_spelled entry.value) (codes "n"))) ≡ c.documents =
      ap (documents_told entries) number
      ∙ ap (map (λ x. document_spelled x.value)) (lists_documents entries cs c h (found_there cs c h.lawful.apart there))
      ∙ documents_back c.number c.documents (λ d in_c. storable_of c d kept in_c) in
      λ i. record { name = name i; number = number i; documents = documents i; indexes = indexes i }

  all_told : (ds : List Collection) → ((d : Collection) → Among d ds → Among d cs) → map (collection_told entries) (map catalogue_entry ds) ≡ ds
  all_told [] within = refl
  all_told (d ∷ ds) within = λ i. collection_back d (within d (inl refl)) i ∷ all_told ds (λ e there. within e (inr there)) i

-- ---- all of them

pub reads_collections : ReadsCollections
unfolding collections_among
reads_collections entries cs spells lawful =
    let h : SpellsLawful entries cs = record { lawful = lawful; spells = spells } in
    ap (map (collection_told entries)) (lists_collections entries cs h) ∙ all_told entries cs h cs (λ d there. there)

pub reads_held : ReadsHeld
unfolding collections_in
reads_held image cs h = ap collections_among (reads_entries image h.entries h.stands) ∙ reads_collections h.entries cs h.spells h.state
