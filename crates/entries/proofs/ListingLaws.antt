-- The entries of one index of one collection, between two keys.
use Rattle.std.proofs.Common.{◌≡◌, ℕ, suc, ◌+◌, ◌<◌, ◌≤◌, ◌^◌, true, List, [], ◌∷◌, map, Some, inl, inr, refl, sym, ap, subst, ◌∙◌, arith}
use Rattle.std.specs.List.{AllPairs}
use Rattle.std.specs.Ordering.{nat_cmp, ordering_then}
use Rattle.std.specs.Cmp.Lexicographic.{slice_cmp}
use Rattle.std.specs.declared.cmp.Ordering.TheVariants.{Less}
use Rattle.std.proofs.lemmas.Cmp.{nat_cmp_total, tied_itself}
use Rattle.bson.specs.Tree.{Pairs}
use Rattle.value_order.specs.Laws.{IsKey}
use Rattle.value_order.specs.Order.{value, compare}
use Rattle.value_order.specs.KeyText.{tree_text}
use Rattle.value_order.specs.declared.texts.Direction.TheVariants as directions
use Rattle.value_order.proofs.KeyLaws.{texts_order}
use Rattle.tree_model.specs.Keys.{Entry, Each, IsUnder, Rises}
use Rattle.index.specs.Definition.{Definition}
use Rattle.index.specs.KeyTexts.{encoded_keys}
use Rattle.entry_model.specs.State.{Collection, words, key_of}
use Rattle.entry_model.specs.StateEntries.{key_under, catalogue_entry, document_entry, index_entry, index_entries, collection_entries, entry_keys}
use Rattle.entry_model.specs.LawfulState.{IsKept}
use Rattle.entry_model.specs.StateLaws.{entries_in}
use Rattle.entry_model.specs.StateReads.{SpellsLawful, entries_under, ListsCollections, ListsDocuments, ListsIndex}
use Rattle.entry_model.proofs.MemberLemmas.{Among, among_of, contains_of, among_map, among_image, among_flat, among_each, first_of}
use Rattle.entry_model.proofs.PlaceLemmas.{found_in}
use Rattle.entries.proofs.EntryLemmas.{IsOneOf, IsDocumentOf, IsKeyOf, document_among, keyed_among, key_among}
use Rattle.entry_model.proofs.LawfulParts.{id_is_key, kept_of, storable_of, listed_of}
use Rattle.entries.proofs.HomeLemmas.{Home, number_fits, one_number, one_index}
use Rattle.entries.proofs.CatalogueEntries.{text_size}
use Rattle.entries.proofs.SpelledLaws.{same_map}
use Rattle.entries.proofs.WindowLemmas.{is_inside, under_cmp, inside_there, among_window, window_among, window_rises}
use Rattle.entries.proofs.ReadLaws.{there_of, in_map, IsUnderBoth, catalogue_under, document_under, key_under_of, under_these}

-- ---- images that rise

each_image : {X : Type 0} (P : List ℕ → Type 0) (f : X → Entry) (xs : List X) → ((x : X) → Among x xs → P (f x).key) → Each P (entry_keys (map f xs))
each_image P f [] h = tt
each_image P f (x ∷ xs) h = (h x (inl refl), each_image P f xs (λ y g. h y (inr g)))

rises_image : {X : Type 0} (R : X → X → Type 0) (f : X → Entry) (xs : List X) → AllPairs R xs
    → ((x y : X) → Among x xs → Among y xs → R x y → IsUnder (f x).key (f y).key) → Rises (entry_keys (map f xs))
rises_image R f [] apart h = tt
rises_image R f (x ∷ xs) apart h = (
  each_image (IsUnder (f x).key) f xs (λ y g. h x y (inl refl) (inr g) (first_of R x xs y apart g)),
  rises_image R f xs (λ i j d lt below. apart (suc i) (suc j) d (omega (arith, lt)) (omega (arith, below))) (λ y z p q. h y z (inr p) (inr q)),
)

under_one : (m i : ℕ) (x y : List ℕ) → m < 2 ^ 32 → i < 2 ^ 32 → IsUnder x y → IsUnder (key_under m i x) (key_under m i y)
under_one m i x y a b less =
    under_cmp m m i i x y a a b b ∙ (λ t. ordering_then (tied_itself nat_cmp_total m t) (ordering_then (tied_itself nat_cmp_total i t) (less t)))

name_key : (c : Collection) → IsKept c → IsKey (value (words c.name))
name_key c kept = (kept.name, omega (arith, text_size c.name, kept.short))

names_rise : (c d : Collection) → IsKept c → IsKept d → slice_cmp nat_cmp c.name d.name ≡ Less → IsUnder (catalogue_entry c).key (catalogue_entry d).key
names_rise c d kc kd less =
    under_one 0 0 (tree_text (words c.name)) (tree_text (words d.name)) (omega arith) (omega arith)
    (texts_order directions.Ascending (value (words c.name)) (value (words d.name)) (name_key c kc) (name_key d kd) ∙ less)

documents_rise : (c : Collection) (d e : Pairs) → IsKept c → Among d c.documents → Among e c.documents → compare (key_of d) (key_of e) ≡ Less
    → IsUnder (document_entry c.number d).key (document_entry c.number e).key
documents_rise c d e kept p q less =
    under_one c.number 0 (tree_text (key_of d)) (tree_text (key_of e)) (number_fits c kept) (omega arith)
    (texts_order directions.Ascending (value (key_of d)) (value (key_of e)) (id_is_key d (storable_of c d kept p)) (id_is_key e (storable_of c e kept q))
    ∙ less)

-- ---- the entries under two numbers

under_rises : (xs : List Entry) (cs : List Collection) → SpellsLawful xs cs → (n i : ℕ) → Rises (entry_keys (entries_under n i xs))
under_rises xs cs h n i = window_rises (key_under n i []) (Some (key_under n (i + 1) [])) xs h.spells.rises

-- an entry that is under these numbers is among them
put_under : (xs : List Entry) (n i : ℕ) (x : Entry) → Among x xs → IsUnderBoth n i x → i ≤ 16 → Among x (entries_under n i xs)
put_under xs n i x there u few =
    window_among (key_under n i []) (Some (key_under n (i + 1) [])) xs x there
    (ap (λ (k : List ℕ). is_inside (key_under n i []) (Some (key_under n (i + 1) [])) k) u.is ∙ inside_there n i u.text u.collection_fits (omega (arith, few)))

pub lists_collections : ListsCollections
lists_collections xs cs h =
    same_map (entries_under 0 0 xs) (map catalogue_entry cs) (under_rises xs cs h 0 0)
    (rises_image (λ c d. slice_cmp nat_cmp c.name d.name ≡ Less) catalogue_entry cs h.lawful.apart
    (λ c d p q less. names_rise c d (kept_of cs c h.lawful p) (kept_of cs d h.lawful q) less))
    to from
  where
    of_home : (x : Entry) → is_inside (key_under 0 0 []) (Some (key_under 0 (0 + 1) [])) x.key ≡ true → Home cs x → Among x (map catalogue_entry cs)
    of_home x e home = at home.one
      where
        kept : IsKept home.collection
        kept = kept_of cs home.collection h.lawful home.there

        none : (i : ℕ) → IsUnderBoth home.collection.number i x → ⊥
        none i u = let zero = (under_these home.collection.number i 0 0 x u (omega arith) (omega arith) e).0 in omega (arith, zero, kept.least)

        at : IsOneOf home.collection x → Among x (map catalogue_entry cs)
        at (inl f) = subst (λ (y : Entry). Among y (map catalogue_entry cs)) (sym f) (among_image catalogue_entry home.collection cs home.there)
        at (inr (inl d)) = absurd (none 0 (document_under home.collection x kept d))
        at (inr (inr k)) = absurd (none k.index.number (key_under_of home.collection x kept k))

    to : (x : Entry) → Among x (entries_under 0 0 xs) → Among x (map catalogue_entry cs)
    to x g = let w = among_window (key_under 0 0 []) (Some (key_under 0 (0 + 1) [])) xs x g in of_home x w.1 (there_of xs cs h x w.0)

    from : (x : Entry) → Among x (map catalogue_entry cs) → Among x (entries_under 0 0 xs)
    from x g =
        let c = among_map catalogue_entry x cs g in
        put_under xs 0 0 x (in_map xs cs h c.0 x c.1 (inl c.2)) (catalogue_under c.0 x c.2) (omega arith)

pub lists_documents : ListsDocuments
lists_documents xs cs c h found =
    same_map (entries_under c.number 0 xs) (map (document_entry c.number) c.documents) (under_rises xs cs h c.number 0)
    (rises_image (λ d e. compare (key_of d) (key_of e) ≡ Less) (document_entry c.number) c.documents kept.rising
    (λ d e p q less. documents_rise c d e kept p q less))
    to from
  where
    there : Among c cs
    there = found_in cs c.name c found

    kept : IsKept c
    kept = kept_of cs c h.lawful there

    of_home : (x : Entry) → is_inside (key_under c.number 0 []) (Some (key_under c.number (0 + 1) [])) x.key ≡ true → Home cs x
        → Among x (map (document_entry c.number) c.documents)
    of_home x e home = at home.one
      where
        home_kept : IsKept home.collection
        home_kept = kept_of cs home.collection h.lawful home.there

        these : (m i : ℕ) → IsUnderBoth m i x → (m ≡ c.number) × (i ≡ 0)
        these m i u = under_these m i c.number 0 x u (number_fits c kept) (omega arith) e

        at : IsOneOf home.collection x → Among x (map (document_entry c.number) c.documents)
        at (inl f) = absurd (let zero = (these 0 0 (catalogue_under home.collection x f)).0 in omega (arith, zero, kept.least))
        at (inr (inl d)) =
            let one : home.collection ≡ c =
            one_number cs home.collection c h.lawful.numbers home.there there
            (these home.collection.number 0 (document_under home.collection x home_kept d)).0 in
            subst (λ (y : Entry). Among y (map (document_entry c.number) c.documents)) (sym d.is)
            (subst (λ (f : Collection). Among (document_entry f.number d.document) (map (document_entry c.number) c.documents)) (sym one)
            (among_image (document_entry c.number) d.document c.documents (subst (λ (f : Collection). Among d.document f.documents) one d.there)))
        at (inr (inr k)) =
            absurd (let zero = (these home.collection.number k.index.number (key_under_of home.collection x home_kept k)).1 in
            omega (arith, zero, (listed_of home.collection k.index home_kept k.listed).lawful.numbered))

    to : (x : Entry) → Among x (entries_under c.number 0 xs) → Among x (map (document_entry c.number) c.documents)
    to x g = let w = among_window (key_under c.number 0 []) (Some (key_under c.number (0 + 1) [])) xs x g in of_home x w.1 (there_of xs cs h x w.0)

    from : (x : Entry) → Among x (map (document_entry c.number) c.documents) → Among x (entries_under c.number 0 xs)
    from x g =
        let d = among_map (document_entry c.number) x c.documents g in
        let of : IsDocumentOf c x = record { document = d.0; there = d.1; is = d.2 } in
        put_under xs c.number 0 x (in_map xs cs h c x there (subst (λ (y : Entry). Among y (collection_entries c)) (sym d.2) (document_among c d.0 d.1)))
        (document_under c x kept of) (omega arith)

pub lists_index : ListsIndex
lists_index xs cs c i h found listed x = (
  λ g. contains_of (entries_in c i) x (to (among_of (entries_under c.number i.number xs) x g)),
  λ g. contains_of (entries_under c.number i.number xs) x (from (among_of (entries_in c i) x g)),
)
  where
    there : Among c cs
    there = found_in cs c.name c found

    kept : IsKept c
    kept = kept_of cs c h.lawful there

    in_c : Among i c.indexes
    in_c = among_of c.indexes i listed

    of_home : is_inside (key_under c.number i.number []) (Some (key_under c.number (i.number + 1) [])) x.key ≡ true → Home cs x → Among x (entries_in c i)
    of_home e home = at home.one
      where
        home_kept : IsKept home.collection
        home_kept = kept_of cs home.collection h.lawful home.there

        these : (m j : ℕ) → IsUnderBoth m j x → (m ≡ c.number) × (j ≡ i.number)
        these m j u = under_these m j c.number i.number x u (number_fits c kept) (omega (arith, (listed_of c i kept in_c).lawful.most)) e

        in_entries : (f : Collection) → f ≡ c → IsKeyOf f x → Among x (entries_in c i)
        in_entries f one k =
            let here : IsKeyOf c x = subst (λ (g : Collection). IsKeyOf g x) one k in
            let index : here.index ≡ i = one_index c here.index i kept here.listed in_c (these c.number here.index.number (key_under_of c x kept here)).1 in
            among_each (λ d. index_entries c.number d i) x here.document c.documents here.there
            (subst (λ (j : Definition). Among x (index_entries c.number here.document j)) index
            (subst (λ (y : Entry). Among y (index_entries c.number here.document here.index)) (sym here.is)
            (key_among c.number here.index here.document here.key here.keyed)))

        at : IsOneOf home.collection x → Among x (entries_in c i)
        at (inl f) = absurd (let zero = (these 0 0 (catalogue_under home.collection x f)).0 in omega (arith, zero, kept.least))
        at (inr (inl d)) =
            absurd (let zero = (these home.collection.number 0 (document_under home.collection x home_kept d)).1 in
            omega (arith, zero, (listed_of c i kept in_c).lawful.numbered))
        at (inr (inr k)) =
            let u = these home.collection.number k.index.number (key_under_of home.collection x home_kept k) in
            in_entries home.collection (one_number cs home.collection c h.lawful.numbers home.there there u.0) k

    to : Among x (entries_under c.number i.number xs) → Among x (entries_in c i)
    to g = let w = among_window (key_under c.number i.number []) (Some (key_under c.number (i.number + 1) [])) xs x g in of_home w.1 (there_of xs cs h x w.0)

    from : Among x (entries_in c i) → Among x (entries_under c.number i.number xs)
    from g =
        let d = among_flat (λ d. index_entries c.number d i) x c.documents g in
        let k = among_map (index_entry c.number i.number (key_of d.0)) x (encoded_keys i.fields d.0) d.2 in
        let of : IsKeyOf c x = record { document = d.0; there = d.1; index = i; listed = in_c; key = k.0; keyed = k.1; is = k.2 } in
        put_under xs c.number i.number x
        (in_map xs cs h c x there (subst (λ (y : Entry). Among y (collection_entries c)) (sym k.2) (keyed_among c d.0 i k.0 d.1 in_c k.1)))
        (key_under_of c x kept of) (listed_of c i kept in_c).lawful.most
