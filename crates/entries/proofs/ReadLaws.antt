-- What is found in a map that spells a lawful state.
use Rattle.std.proofs.Common.{◌≡◌, ℕ, ◌+◌, ◌<◌, ◌^◌, Bool, true, false, List, [], ◌∷◌, ◌++◌, Option, Some, None, option_map, inl, inr, refl, sym, ap, subst}
use Rattle.std.proofs.Common.{◌∙◌, arith}
use Rattle.std.specs.Prelude.{if◌then◌else◌}
use Rattle.std.specs.Str.{bytes_eq}
use Rattle.std.specs.Ordering.{is_eq}
use Rattle.std.specs.declared.cmp.Ordering.{Ordering}
use Rattle.std.specs.declared.cmp.Ordering.TheVariants.{Less, Equal, Greater}
use Rattle.std.proofs.lemmas.Slice.Eq.{bytes_eq-Decides}
use Rattle.bson.specs.Tree.{Tree, Pairs}
use Rattle.bson.specs.Spelling.{frame_of, pairs_bytes}
use Rattle.value_order.specs.Order.{value, compare}
use Rattle.value_order.specs.KeyText.{tree_text}
use Rattle.value_order.specs.declared.texts.Direction.TheVariants as directions
use Rattle.value_order.proofs.KeyLaws.{texts_agree}
use Rattle.tree_model.specs.Keys.{Entry, Rises, value_at}
use Rattle.entry_model.specs.State.{Collection, words, key_of, find_collection}
use Rattle.entry_model.specs.StateEntries.{key_under, catalogue_entry, document_entry, collection_entries, state_entries, entry_keys}
use Rattle.entry_model.specs.LawfulState.{IsKept}
use Rattle.entry_model.specs.StateReads.{SpellsLawful, catalogue_bytes, find_document, FindsCollection, FindsDocument}
use Rattle.entry_model.proofs.MemberLemmas.{Among, among_of, contains_of, among_each}
use Rattle.entries.proofs.ExchangeLaws.{value_entry, entry_value}
use Rattle.entry_model.proofs.PlaceLemmas.{found_in, found_name}
use Rattle.entries.proofs.EntryLemmas.{IsOneOf, IsDocumentOf, IsKeyOf, document_among, same_first, same_second, same_rest, same_words}
use Rattle.entry_model.proofs.LawfulParts.{id_is_key, kept_of, storable_of, listed_of}
use Rattle.entries.proofs.HomeLemmas.{Home, home_of, number_fits, inside_of, one_number}
use Rattle.entries.proofs.WindowLemmas.{is_inside, inside_same}
use Rattle.entry_model.proofs.DocumentPlaces.{document_some}

-- ---- entries of a map, by the collection

-- an entry of the map, with its collection
pub there_of : (xs : List Entry) (cs : List Collection) → SpellsLawful xs cs → (x : Entry) → Among x xs → Home cs x
there_of xs cs h x there = home_of cs x (among_of (state_entries cs) x ((h.spells.same x).0 (contains_of xs x there)))

pub in_map : (xs : List Entry) (cs : List Collection) → SpellsLawful xs cs → (c : Collection) (x : Entry) → Among c cs → Among x (collection_entries c)
    → Among x xs
in_map xs cs h c x there here = among_of xs x ((h.spells.same x).1 (contains_of (state_entries cs) x (among_each collection_entries x c cs there here)))

-- the numbers that an entry is under, and its text
pub record IsUnderBoth (collection index : ℕ) (x : Entry) : Type 0 where
  pub text : List ℕ
  pub is : x.key ≡ key_under collection index text
  pub collection_fits : collection < 2 ^ 32
  pub index_fits : index < 2 ^ 32

pub catalogue_under : (c : Collection) (x : Entry) → x ≡ catalogue_entry c → IsUnderBoth 0 0 x
catalogue_under c x e = record { text = tree_text (words c.name); is = ap (λ (y : Entry). y.key) e; collection_fits = omega arith; index_fits = omega arith }

pub document_under : (c : Collection) (x : Entry) → IsKept c → IsDocumentOf c x → IsUnderBoth c.number 0 x
document_under c x kept d = record
    { text = tree_text (key_of d.document); is = ap (λ (y : Entry). y.key) d.is; collection_fits = number_fits c kept; index_fits = omega arith }

pub key_under_of : (c : Collection) (x : Entry) → IsKept c → (k : IsKeyOf c x) → IsUnderBoth c.number k.index.number x
key_under_of c x kept k = record {
  text = k.key ++ tree_text (key_of k.document);
  is = ap (λ (y : Entry). y.key) k.is;
  collection_fits = number_fits c kept;
  index_fits = omega (arith, (listed_of c k.index kept k.listed).lawful.most);
}

-- an entry between the keys of two numbers is under these
pub under_these : (m i n j : ℕ) (x : Entry) → IsUnderBoth m i x → n < 2 ^ 32 → j + 1 < 2 ^ 32
    → is_inside (key_under n j []) (Some (key_under n (j + 1) [])) x.key ≡ true → (m ≡ n) × (i ≡ j)
under_these m i n j x u fits more e =
    inside_same m n i j u.text u.collection_fits fits u.index_fits more
    (ap (λ (k : List ℕ). is_inside (key_under n j []) (Some (key_under n (j + 1) [])) k) (sym u.is) ∙ e)

-- ---- by a key

one_value : (k v : List ℕ) (xs : List Entry) → Rises (entry_keys xs) → Among (record { key = k; value = v }) xs → value_at k xs ≡ Some v
one_value k v xs rises there = entry_value (record { key = k; value = v }) xs rises there

no_value : (k : List ℕ) (xs : List Entry) → ((x : Entry) → Among x xs → x.key ≡ k → ⊥) → value_at k xs ≡ None
no_value k xs h = by (value_at k xs) refl
  where
    by : (o : Option (List ℕ)) → value_at k xs ≡ o → value_at k xs ≡ None
    by None e = e
    by (Some v) e = absurd (h (record { key = k; value = v }) (value_entry k v xs e) refl)

-- a collection of the name is found
name_found : (cs : List Collection) (c : Collection) (name : List ℕ) → Among c cs → name ≡ c.name → find_collection cs name ≡ None → ⊥
name_found [] c name h e f = h
name_found (d ∷ cs) c name h e f = by (bytes_eq name d.name) refl h f (λ g k. name_found cs c name g e k)
  where
    by : (b : Bool) → bytes_eq name d.name ≡ b → Among c (d ∷ cs) → (if b then Some d else find_collection cs name) ≡ None
        → (Among c cs → find_collection cs name ≡ None → ⊥) → ⊥
    by true same g k later = let none : Some d ≡ None = k in absurd cc
    by false other (inl p) k later =
        let same : bytes_eq name d.name ≡ true = (bytes_eq-Decides name d.name).1 (e ∙ ap (λ (x : Collection). x.name) p) in
        let g : true ≡ false = sym same ∙ other in cc
    by false other (inr g) k later = later g k

pub finds_collection : FindsCollection
finds_collection xs cs name h = by (find_collection cs name) refl
  where
    key : List ℕ
    key = key_under 0 0 (tree_text (words name))

    of_home : (x : Entry) → x.key ≡ key → Home cs x → find_collection cs name ≡ None → ⊥
    of_home x e home none = at home.one
      where
        at : IsOneOf home.collection x → ⊥
        at (inl f) =
            let named : home.collection.name ≡ name =
            same_words home.collection.name name
            (same_rest 0 0 0 0 (tree_text (words home.collection.name)) (tree_text (words name)) (sym (ap (λ (y : Entry). y.key) f) ∙ e)) in
            name_found cs home.collection name home.there (sym named) none
        at (inr g) =
            let inside = inside_of home.collection x g in
            let kept = kept_of cs home.collection h.lawful home.there in
            let zero : 0 ≡ home.collection.number =
            same_first 0 home.collection.number 0 inside.0 (tree_text (words name)) inside.1 (omega arith) (number_fits home.collection kept)
            (sym e ∙ inside.2) in
            omega (arith, zero, kept.least)

    by : (o : Option Collection) → find_collection cs name ≡ o → value_at key xs ≡ option_map catalogue_bytes o
    by (Some c) e =
        let at : catalogue_entry c ≡ record { key = key; value = catalogue_bytes c } =
        λ i. record { key = key_under 0 0 (tree_text (words (sym (found_name cs name c e) i))); value = catalogue_bytes c } in
        one_value key (catalogue_bytes c) xs h.spells.rises
        (subst (λ (x : Entry). Among x xs) at (in_map xs cs h c (catalogue_entry c) (found_in cs name c e) (inl refl)))
    by None e = no_value key xs (λ x there same. of_home x same (there_of xs cs h x there) e)

tie : (o : Ordering) → is_eq o ≡ true → o ≡ Equal
tie Less e = absurd cc
tie Equal e = refl
tie Greater e = absurd cc

document_none : (ds : List Pairs) (id : Tree) (d : Pairs) → find_document ds id ≡ None → Among d ds → compare id (key_of d) ≡ Equal → ⊥
document_none [] id d e h f = h
document_none (x ∷ ds) id d e h f = by (is_eq (compare id (key_of x))) refl e h (λ g k. document_none ds id d g k f)
  where
    by : (b : Bool) → is_eq (compare id (key_of x)) ≡ b → (if b then Some x else find_document ds id) ≡ None → Among d (x ∷ ds)
        → (find_document ds id ≡ None → Among d ds → ⊥) → ⊥
    by true same g k later = let none : Some x ≡ None = g in absurd cc
    by false other g (inl p) later = let t : true ≡ false = sym (ap is_eq f) ∙ ap (λ (y : Pairs). is_eq (compare id (key_of y))) p ∙ other in cc
    by false other g (inr k) later = later g k

pub finds_document : FindsDocument
finds_document xs cs c id h found spellable = by (find_document c.documents id) refl
  where
    key : List ℕ
    key = key_under c.number 0 (tree_text id)

    there : Among c cs
    there = found_in cs c.name c found

    kept : IsKept c
    kept = kept_of cs c h.lawful there

    of_home : (x : Entry) → x.key ≡ key → Home cs x → find_document c.documents id ≡ None → ⊥
    of_home x e home none = at home.one
      where
        home_kept : IsKept home.collection
        home_kept = kept_of cs home.collection h.lawful home.there

        at : IsOneOf home.collection x → ⊥
        at (inl f) =
            let zero : 0 ≡ c.number =
            same_first 0 c.number 0 0 (tree_text (words home.collection.name)) (tree_text id) (omega arith) (number_fits c kept)
            (sym (ap (λ (y : Entry). y.key) f) ∙ e) in
            omega (arith, zero, kept.least)
        at (inr (inl d)) =
            let same_key : key_under home.collection.number 0 (tree_text (key_of d.document)) ≡ key = sym (ap (λ (y : Entry). y.key) d.is) ∙ e in
            let numbered =
            same_first home.collection.number c.number 0 0 (tree_text (key_of d.document)) (tree_text id) (number_fits home.collection home_kept)
            (number_fits c kept) same_key in
            let one : home.collection ≡ c = one_number cs home.collection c h.lawful.numbers home.there there numbered in
            let text : tree_text id ≡ tree_text (key_of d.document) =
            sym (same_rest home.collection.number c.number 0 0 (tree_text (key_of d.document)) (tree_text id) same_key) in
            let equal : compare id (key_of d.document) ≡ Equal =
            (texts_agree directions.Ascending (value id) (value (key_of d.document)) spellable
            (id_is_key d.document (storable_of home.collection d.document home_kept d.there))).0 text in
            document_none c.documents id d.document none (subst (λ (f : Collection). Among d.document f.documents) one d.there) equal
        at (inr (inr k)) =
            let u = key_under_of home.collection x home_kept k in
            let zero : k.index.number ≡ 0 =
            same_second home.collection.number c.number k.index.number 0 u.text (tree_text id) u.index_fits (omega arith) (sym u.is ∙ e) in
            omega (arith, zero, (listed_of home.collection k.index home_kept k.listed).lawful.numbered)

    by : (o : Option Pairs) → find_document c.documents id ≡ o → value_at key xs ≡ option_map (λ d. frame_of (pairs_bytes d)) o
    by (Some d) e =
        let f = document_some c.documents id d e in
        let text : tree_text (key_of d) ≡ tree_text id =
        sym ((texts_agree directions.Ascending (value id) (value (key_of d)) spellable (id_is_key d (storable_of c d kept f.0))).1 f.1) in
        let at : document_entry c.number d ≡ record { key = key; value = frame_of (pairs_bytes d) } =
        λ i. record { key = key_under c.number 0 (text i); value = frame_of (pairs_bytes d) } in
        one_value key (frame_of (pairs_bytes d)) xs h.spells.rises
        (subst (λ (x : Entry). Among x xs) at (in_map xs cs h c (document_entry c.number d) there (document_among c d f.0)))
    by None e = no_value key xs (λ x here same. of_home x same (there_of xs cs h x here) e)
