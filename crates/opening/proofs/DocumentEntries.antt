-- A document more in what the entries of a file stand for: its entries in indexes stand among all, and are no other document's.
use Rattle.std.proofs.Common.{◌≡◌, ◌≢◌, ◌⊎◌, ℕ, set, ◌+◌, Bool, true, false, not, ◌&&◌, ◌||◌, List, [], ◌∷◌, ◌++◌, length, map, Some, None, inl, inr, refl, sym}
use Rattle.std.proofs.Common.{ap, subst, ◌∙◌, arith, append_assoc, length-append}
use Rattle.std.specs.Prelude.{◌==◌, if◌then◌else◌, Option}
use Rattle.std.specs.Int.{w32, to_be_bytes}
use Rattle.std.specs.Cmp.Lexicographic.{slice_cmp}
use Rattle.std.specs.Ordering.{nat_cmp}
use Rattle.std.proofs.lemmas.Cmp.{nat_list_cmp_total}
use Rattle.std.specs.List.{flat_map, list_any}
use Rattle.std.proofs.lemmas.List.{length-map}
use Rattle.bson.specs.Tree.{Pairs}
use Rattle.value_order.specs.KeyText.{tree_text}
use Rattle.tree_model.specs.Keys.{Entry, IsUnder, value_at}
use Rattle.tree_model.proofs.KeyLemmas.{not_under_itself}
use Rattle.index.specs.Changes.{is_among}
use Rattle.index.specs.Definition.{Definition}
use Rattle.entry_model.specs.Documents.{put_document, with_documents}
use Rattle.entry_model.specs.Entering.{clashes, is_other, share_key}
use Rattle.index.specs.KeyTexts.{encoded_keys, entry_key, key_bytes}
use Rattle.index.specs.IndexKeys.{index_keys}
use Rattle.entry_model.specs.LawfulState.{IsKept as IsIndexKept, IsStorable}
use Rattle.entries.specs.OtherKeys.{has_other_key, is_another}
use Rattle.entry_model.specs.State.{Collection, find_collection, key_of}
use Rattle.entry_model.specs.StateEntries.{catalogue_entry, document_entry, index_entries, index_entry, key_under}
use Rattle.entry_model.proofs.DocumentPlaces.{IsBetween, placed}
use Rattle.entries.proofs.EntryLemmas.{IsDocumentOf, IsKeyOf, same_first, same_rest, same_second}
use Rattle.entry_model.proofs.LawfulParts.{same_text, kept_of, storable_of}
use Rattle.entries.proofs.ExchangeLaws.{value_entry}
use Rattle.entries.proofs.FrontLemmas.{another_there}
use Rattle.entries.proofs.HomeLemmas.{inside_of, number_fits, one_index, one_number}
use Rattle.entry_model.proofs.KeyOfDocument.{among_around, among_middle, among_there, same_keys, test_among}
use Rattle.entry_model.proofs.MemberLemmas.{Among, among_append, among_back, among_each, among_flat, among_front, among_image, among_map}
use Rattle.entries.proofs.OtherEditLaws.{any_there, any_told}
use Rattle.entry_model.proofs.PlaceLemmas.{among_put, found_split}
use Rattle.entry_model.proofs.LawfulLaws.{put_in}
use Rattle.index.proofs.SetLemmas.{set_sorted}
use Rattle.collections.specs.IndexChecks.{has_entry, is_empty_at, lacks_any, lacks_key, lacks_one}
use Rattle.opening.specs.Totals.{total_documents}
use Rattle.database_model.specs.Places.{collection_at, no_collection}
use Rattle.opening.specs.Judging.{AreLoaded, HasItsKeys, IsStoredAt, Progress, bare, key_count, keys_among, listed_of, numbered, with_document_at}
use Rattle.opening.specs.Judging.{with_document_in}
use Rattle.opening.proofs.OnceLists.{AreOnce, once_append, once_flat, once_map, sorted_once}
use Rattle.opening.proofs.TakingLemmas.{document_loaded, find_there, is_storable, kept_with}
use Rattle.database_model.proofs.Located.{Gap, There, located}
use Rattle.database_model.proofs.Ordered.{found as found_at, missing, replaced}
use Rattle.opening.proofs.EntriesSoFar.{count_set, IsKeyed, IsPlain, Stands, index_fits, not_both, one_of_one, seen_same, under_none}

-- ---- what a check of keys tells

neither : (a b : Bool) → (a || b) ≡ false → (a ≡ false) × (b ≡ false)
neither true b e = absurd cc
neither false b e = (refl, e)

empty_there : (o : Option (List ℕ)) → not (is_empty_at o) ≡ false → o ≡ Some []
empty_there None e = absurd cc
empty_there (Some []) e = refl
empty_there (Some (b ∷ bytes)) e = absurd cc

lacks_no_key : (n : ℕ) (i : Definition) (id : List ℕ) (keys : List (List ℕ)) (all : List Entry) (key : List ℕ) → lacks_one n i id keys all ≡ false
    → Among key keys → lacks_key n i id key all ≡ false
lacks_no_key n i id [] all key none there = absurd there
lacks_no_key n i id (k ∷ keys) all key none (inl e) =
    ap (λ (l : List ℕ). lacks_key n i id l all) e ∙ (neither (lacks_key n i id k all) (lacks_one n i id keys all) none).0
lacks_no_key n i id (k ∷ keys) all key none (inr there) =
    lacks_no_key n i id keys all key (neither (lacks_key n i id k all) (lacks_one n i id keys all) none).1 there

lacks_none : (n : ℕ) (id : List ℕ) (is : List Definition) (d : Pairs) (all : List Entry) (i : Definition) (key : List ℕ)
    → lacks_any n id is (keys_among is d) all ≡ false → Among i is → Among key (encoded_keys i.fields d)
    → lacks_key n i id key all ≡ false
lacks_none n id [] d all i key none there keyed = absurd there
lacks_none n id (j ∷ is) d all i key none (inl e) keyed =
    let here = (neither (lacks_one n j id (encoded_keys j.fields d) all) (lacks_any n id is (keys_among is d) all) none).0 in
    lacks_no_key n i id (encoded_keys i.fields d) all key (ap (λ (k : Definition). lacks_one n k id (encoded_keys k.fields d) all) e ∙ here) keyed
lacks_none n id (j ∷ is) d all i key none (inr there) keyed =
    lacks_none n id is d all i key (neither (lacks_one n j id (encoded_keys j.fields d) all) (lacks_any n id is (keys_among is d) all) none).1 there keyed

-- ---- of a document

-- what a document owes to indexes
abbrev pub owed_by : ℕ → List Definition → Pairs → List Entry
owed_by n is d = flat_map (index_entries n d) is

owed_long : (n : ℕ) (is : List Definition) (d : Pairs) → length (owed_by n is d) ≡ key_count (keys_among is d)
owed_long n [] d = refl
owed_long n (i ∷ is) d =
    omega (
      arith,
      owed_long n is d,
      length-append (index_entries n d i) (owed_by n is d),
      length-map (encoded_keys i.fields d) (index_entry n i.number (key_of d)),
    )

pub owed_told : (n : ℕ) (c : Collection) (d : Pairs) (x : Entry) → c.number ≡ n → Among d c.documents → Among x (owed_by n c.indexes d) → IsKeyOf c x
owed_told n c d x same there owes =
    let i = among_flat (index_entries n d) x c.indexes owes in
    let k = among_map (index_entry n i.0.number (key_of d)) x (encoded_keys i.0.fields d) i.2 in
    record {
      document = d;
      there = there;
      index = i.0;
      listed = i.1;
      key = k.0;
      keyed = k.1;
      is = k.2 ∙ ap (λ (m : ℕ). index_entry m i.0.number (key_of d) k.0) (sym same);
    }

owed_once : (c : Collection) (d : Pairs) → IsIndexKept c → IsStorable d → AreOnce (owed_by c.number c.indexes d)
owed_once c d kept good =
    once_flat (λ i j. i.number ≢ j.number) (index_entries c.number d) c.indexes
    (λ i there. once_map (index_entry c.number i.number (key_of d)) (encoded_keys i.fields d)
    (sorted_once (encoded_keys i.fields d) (set_sorted (map (key_bytes i.fields) (index_keys i.fields d)))) (one_key i))
    kept.distinct apart
  where
    text : List ℕ
    text = tree_text (key_of d)

    one_key : (i : Definition) (k l : List ℕ) → Among k (encoded_keys i.fields d) → Among l (encoded_keys i.fields d)
        → index_entry c.number i.number (key_of d) k ≡ index_entry c.number i.number (key_of d) l → k ≡ l
    one_key i k l p q e =
        (same_keys i.fields d d k l good good p q
        (same_rest c.number c.number i.number i.number (k ++ tree_text (key_of d)) (l ++ tree_text (key_of d)) (ap (λ (x : Entry). x.key) e))).0

    apart : (i j : Definition) → Among i c.indexes → Among j c.indexes → i.number ≢ j.number → (z : Entry) → Among z (index_entries c.number d i)
        → Among z (index_entries c.number d j) → ⊥
    apart i j hi hj differ z p q =
        let k = among_map (index_entry c.number i.number (key_of d)) z (encoded_keys i.fields d) p in
        let l = among_map (index_entry c.number j.number (key_of d)) z (encoded_keys j.fields d) q in
        differ (same_second c.number c.number i.number j.number (k.0 ++ tree_text (key_of d)) (l.0 ++ tree_text (key_of d)) (index_fits c i kept hi)
        (index_fits c j kept hj) (ap (λ (x : Entry). x.key) (sym k.2 ∙ l.2)))

front_rest : (m n : ℕ) (key rest : List ℕ) → key_under m n key ++ rest ≡ key_under m n (key ++ rest)
front_rest m n key rest =
    append_assoc (to_be_bytes w32 m) (to_be_bytes w32 n ++ key) rest ∙ ap (λ (l : List ℕ). to_be_bytes w32 m ++ l) (append_assoc (to_be_bytes w32 n) key rest)

module _ (all done : List Entry) (pair : Entry) (p : Progress) (s : Stands all done p) (c : Collection) (d : Pairs) (there : Among c p.now)
    (found : numbered c.number p.now ≡ Some c)
    (is : IsStoredAt (bare c) pair d) (keyed : HasItsKeys all (bare c) d) (under : (x : Entry) → Among x done → IsUnder x.key pair.key) where
  kept : IsIndexKept c
  kept = kept_of p.now c s.loaded.lawful there

  good : IsStorable d
  good = is_storable d is.stored is.readable

  -- no document so far has its `_id`
  fresh : (e : Pairs) → Among e c.documents → tree_text (key_of e) ≡ tree_text (key_of d) → ⊥
  fresh e in_c same =
      let before : IsUnder (document_entry c.number e).key pair.key =
      under (document_entry c.number e)
      (s.plain (document_entry c.number e) (record { collection = c; there = there; is = inr (record { document = e; there = in_c; is = refl }) })) in
      let as_its : IsUnder (key_under c.number 0 (tree_text (key_of e))) (key_under c.number 0 (tree_text (key_of d))) =
      subst (λ (k : List ℕ). IsUnder (key_under c.number 0 (tree_text (key_of e))) k) (ap (λ (x : Entry). x.key) is.pair_is) before in
      not_under_itself (key_under c.number 0 (tree_text (key_of d)))
      (subst (λ (t : List ℕ). IsUnder (key_under c.number 0 t) (key_under c.number 0 (tree_text (key_of d)))) same as_its)

  between : IsBetween d c.documents
  between = elim (placed d c.documents kept.rising) [
    | inl b ↦ b
    | inr i ↦ (let in_c : Among i.old c.documents = subst (Among i.old) (sym i.split) (among_there i.old i.front i.back) in
        absurd (fresh i.old in_c (same_text i.old d (storable_of c i.old kept in_c) good i.same)))
  ]

  -- it shares no key of a unique index with one of them
  apart_from : (i : Definition) (e : Pairs) (key : List ℕ) → Among i c.indexes → i.is_unique ≡ true → Among e c.documents → Among key (encoded_keys i.fields d)
      → Among key (encoded_keys i.fields e) → ⊥
  apart_from i e key listed unique in_c mine its =
      let x = index_entry c.number i.number (key_of e) key in
      let stands : Among x all =
      s.there x (s.keyed x
      (record { collection = c; there = there; is = record { document = e; there = in_c; index = i; listed = listed; key = key; keyed = its; is = refl } })) in
      let front = key_under c.number i.number key in
      let another : is_another front (tree_text (key_of d)) x.key ≡ true =
      ap (λ (k : List ℕ). is_another (key_under c.number i.number key) (tree_text (key_of d)) k) (sym (front_rest c.number i.number key (tree_text (key_of e))))
      ∙ another_there (key_under c.number i.number key) (tree_text (key_of d)) (tree_text (key_of e)) (λ same. fresh e in_c same) in
      let has : has_other_key c.number i.number key (tree_text (key_of d)) all ≡ true =
      any_there (λ (y : Entry). is_another (key_under c.number i.number key) (tree_text (key_of d)) y.key) all x stands another in
      let lacks = lacks_none c.number (tree_text (key_of d)) c.indexes d all i key keyed listed mine in
      let none = (neither (not (has_entry c.number i.number key (tree_text (key_of d)) all))
      (i.is_unique && has_other_key c.number i.number key (tree_text (key_of d)) all) lacks).1 in
      not_both (i.is_unique && has_other_key c.number i.number key (tree_text (key_of d)) all) (λ j. unique j && has j) none

  clear : list_any (clashes c.documents d) c.indexes ≡ false
  clear = by (list_any (clashes c.documents d) c.indexes) refl
    where
      both_true : (a b : Bool) → (a && b) ≡ true → (a ≡ true) × (b ≡ true)
      both_true true b e = (refl, e)
      both_true false b e = absurd cc

      by : (b : Bool) → list_any (clashes c.documents d) c.indexes ≡ b → list_any (clashes c.documents d) c.indexes ≡ false
      by false none = none
      by true some =
          let i = any_told (clashes c.documents d) c.indexes some in
          let parts = both_true i.one.is_unique (list_any (λ e. is_other d e && share_key i.one.fields d e) c.documents) i.so in
          let e = any_told (λ e. is_other d e && share_key i.one.fields d e) c.documents parts.1 in
          let shares = (both_true (is_other d e.one) (share_key i.one.fields d e.one) e.so).1 in
          let k = any_told (is_among (encoded_keys i.one.fields e.one)) (encoded_keys i.one.fields d) shares in
          absurd (apart_from i.one e.one k.one i.there parts.0 e.there k.there (test_among (encoded_keys i.one.fields e.one) k.one k.so))

  abbrev with_it : Collection
  with_it = record c { documents = put_document d c.documents }

  abbrev after : List Collection
  after = with_documents c (put_document d c.documents) p.now

  pub now_is : with_document_at c.number d p.now ≡ after
  now_is =
      ap (λ (o : Option Collection). with_document_in o d p.now) found
      ∙ ap (λ (b : Bool). if b then p.now else with_documents c (put_document d c.documents) p.now) clear

  kept_with_it : IsIndexKept with_it
  kept_with_it = kept_with c d kept good is.indexable clear

  -- ---- which collections and documents are there

  its_documents : (e : Pairs) → Among e (put_document d c.documents) → (e ≡ d) ⊎ Among e c.documents
  its_documents e h = elim (among_middle e d between.front between.back (subst (Among e) between.put h)) [
    | inl same ↦ inl same
    | inr g ↦ inr (subst (Among e) (sym between.split) g)
  ]

  old_documents : (e : Pairs) → Among e c.documents → Among e (put_document d c.documents)
  old_documents e h = subst (Among e) (sym between.put) (among_around e d between.front between.back (subst (Among e) between.split h))

  new_document : Among d (put_document d c.documents)
  new_document = subst (Among d) (sym between.put) (among_there d between.front between.back)

  it_there : Among with_it after
  it_there = among_put with_it p.now with_it s.loaded.lawful.apart (inl refl)

  others_there : (x : Collection) → Among x p.now → (x ≡ c) ⊎ Among x after
  others_there x h = elim (found_split p.now c.name c x (find_there p.now c s.loaded.lawful.apart there) h) [
    | inl e ↦ inl e
    | inr g ↦ inr (among_put with_it p.now x s.loaded.lawful.apart (inr g))
  ]

  from_after : (x : Collection) → Among x after → (x ≡ with_it) ⊎ Among x p.now
  from_after x h = put_in with_it p.now x s.loaded.lawful.apart h

  -- ---- the entries of these

  plain_of_it : (x : Entry) → (x ≡ catalogue_entry c) ⊎ IsDocumentOf c x → IsPlain after x
  plain_of_it x (inl e) = record { collection = with_it; there = it_there; is = inl e }
  plain_of_it x
      (inr k) = record
      { collection = with_it; there = it_there; is = inr (record { document = k.document; there = old_documents k.document k.there; is = k.is }) }

  plain_on : (x : Entry) → IsPlain p.now x → IsPlain after x
  plain_on x h = elim (others_there h.collection h.there) [
    | inl e ↦ plain_of_it x (subst (λ (y : Collection). (x ≡ catalogue_entry y) ⊎ IsDocumentOf y x) e h.is)
    | inr g ↦ record { collection = h.collection; there = g; is = h.is }
  ]

  key_of_it : (x : Entry) → IsKeyOf c x → IsKeyed after x
  key_of_it x k = record {
    collection = with_it;
    there = it_there;
    is = record {
      document = k.document;
      there = old_documents k.document k.there;
      index = k.index;
      listed = k.listed;
      key = k.key;
      keyed = k.keyed;
      is = k.is;
    };
  }

  keyed_on : (x : Entry) → IsKeyed p.now x → IsKeyed after x
  keyed_on x h = elim (others_there h.collection h.there) [
    | inl e ↦ key_of_it x (subst (λ (y : Collection). IsKeyOf y x) e h.is)
    | inr g ↦ record { collection = h.collection; there = g; is = h.is }
  ]

  back_of_it : (x : Entry) → (x ≡ catalogue_entry with_it) ⊎ IsDocumentOf with_it x → IsPlain p.now x ⊎ (x ≡ pair)
  back_of_it x (inl e) = inl (record { collection = c; there = there; is = inl e })
  back_of_it x (inr k) = elim (its_documents k.document k.there) [
    | inl e ↦ inr (k.is ∙ ap (document_entry c.number) e ∙ sym is.pair_is)
    | inr g ↦ inl (record { collection = c; there = there; is = inr (record { document = k.document; there = g; is = k.is }) })
  ]

  plain_back : (x : Entry) → IsPlain after x → IsPlain p.now x ⊎ (x ≡ pair)
  plain_back x h = elim (from_after h.collection h.there) [
    | inl e ↦ back_of_it x (subst (λ (y : Collection). (x ≡ catalogue_entry y) ⊎ IsDocumentOf y x) e h.is)
    | inr g ↦ inl (record { collection = h.collection; there = g; is = h.is })
  ]

  abbrev news : List Entry
  news = owed_by c.number c.indexes d

  key_there : (x : Entry) (k : IsKeyOf with_it x) → Among k.document (put_document d c.documents) → Among x (s.owed ++ news)
  key_there x k h = elim (its_documents k.document h) [
    | inl e ↦ among_back x s.owed news
        (among_each (index_entries c.number d) x k.index c.indexes k.listed
        (subst (λ (y : Entry). Among y (index_entries c.number d k.index))
        (sym (k.is ∙ ap (λ (f : Pairs). index_entry c.number k.index.number (key_of f) k.key) e))
        (among_image (index_entry c.number k.index.number (key_of d)) k.key (encoded_keys k.index.fields d)
        (subst (λ (f : Pairs). Among k.key (encoded_keys k.index.fields f)) e k.keyed))))
    | inr g ↦ among_front x s.owed news
        (s.keyed x (record {
          collection = c;
          there = there;
          is = record { document = k.document; there = g; index = k.index; listed = k.listed; key = k.key; keyed = k.keyed; is = k.is };
        }))
  ]

  keyed_back : (x : Entry) → IsKeyed after x → Among x (s.owed ++ news)
  keyed_back x h = elim (from_after h.collection h.there) [
    | inl e ↦ (let k : IsKeyOf with_it x = subst (λ (y : Collection). IsKeyOf y x) e h.is in key_there x k k.there)
    | inr g ↦ among_front x s.owed news (s.keyed x (record { collection = h.collection; there = g; is = h.is }))
  ]

  news_of_it : (x : Entry) → Among x news → IsKeyOf with_it x
  news_of_it x h = owed_told c.number with_it d x refl new_document h

  news_there : (x : Entry) → Among x news → Among x all
  news_there x h =
      let i = among_flat (index_entries c.number d) x c.indexes h in
      let k = among_map (index_entry c.number i.0.number (key_of d)) x (encoded_keys i.0.fields d) i.2 in
      let lacks = lacks_none c.number (tree_text (key_of d)) c.indexes d all i.0 k.0 keyed i.1 k.1 in
      let has = (neither (not (has_entry c.number i.0.number k.0 (tree_text (key_of d)) all))
      (i.0.is_unique && has_other_key c.number i.0.number k.0 (tree_text (key_of d)) all) lacks).0 in
      let value : value_at (entry_key c.number i.0.number k.0 (tree_text (key_of d))) all ≡ Some [] =
      empty_there (value_at (entry_key c.number i.0.number k.0 (tree_text (key_of d))) all) has in
      subst (λ (y : Entry). Among y all) (sym k.2) (value_entry (entry_key c.number i.0.number k.0 (tree_text (key_of d))) [] all value)

  -- no other document owes one of them
  news_apart : (x : Entry) → Among x s.owed → Among x news → ⊥
  news_apart x old new =
      let h = s.owing x old in
      let there_kept = kept_of p.now h.collection s.loaded.lawful h.there in
      let k = news_of_it x new in
      let f = inside_of h.collection x (inr h.is) in
      let g = inside_of with_it x (inr k) in
      let numbers : h.collection.number ≡ c.number =
      same_first h.collection.number c.number f.0 g.0 f.1 g.1 (number_fits h.collection there_kept) (number_fits c kept) (sym f.2 ∙ g.2) in
      let one : h.collection ≡ c = one_number p.now h.collection c s.loaded.lawful.numbers h.there there numbers in
      let i = among_flat (index_entries c.number d) x c.indexes new in
      let l = among_map (index_entry c.number i.0.number (key_of d)) x (encoded_keys i.0.fields d) i.2 in
      not_of_it x (subst (λ (y : Collection). IsKeyOf y x) one h.is) i.0 i.1 l.0 l.1 l.2
    where
      not_of_it : (x : Entry) (m : IsKeyOf c x) (i : Definition) → Among i c.indexes → (key : List ℕ) → Among key (encoded_keys i.fields d)
          → x ≡ index_entry c.number i.number (key_of d) key → ⊥
      not_of_it x m i listed key mine is_x =
          let keys : key_under c.number m.index.number (m.key ++ tree_text (key_of m.document)) ≡ key_under c.number i.number (key ++ tree_text (key_of d)) =
          ap (λ (y : Entry). y.key) (sym m.is ∙ is_x) in
          let indexes : m.index.number ≡ i.number =
          same_second c.number c.number m.index.number i.number (m.key ++ tree_text (key_of m.document)) (key ++ tree_text (key_of d))
          (index_fits c m.index kept m.listed) (index_fits c i kept listed) keys in
          let same : m.index ≡ i = one_index c m.index i kept m.listed listed indexes in
          let ends : m.key ++ tree_text (key_of m.document) ≡ key ++ tree_text (key_of d) =
          same_rest c.number c.number m.index.number i.number (m.key ++ tree_text (key_of m.document)) (key ++ tree_text (key_of d)) keys in
          fresh m.document m.there
          (same_keys i.fields m.document d m.key key (storable_of c m.document kept m.there) good
          (subst (λ (j : Definition). Among m.key (encoded_keys j.fields m.document)) same m.keyed) mine ends).1

  -- a document more
  longer : length (put_document d c.documents) ≡ length c.documents + 1
  longer =
      omega (
        arith,
        ap (λ (ds : List Pairs). length ds) between.put,
        ap (λ (ds : List Pairs). length ds) between.split,
        length-append between.front between.back,
        length-append between.front (d ∷ between.back),
      )

  one_more : total_documents after ≡ p.documents + 1
  one_more = at (located nat_list_cmp_total (λ (x : Collection). x.name) p.now c.name s.loaded.lawful.apart)
    where
      it : find_collection p.now c.name ≡ Some c
      it = find_there p.now c s.loaded.lawful.apart there

      at : Gap (slice_cmp nat_cmp) (λ (x : Collection). x.name) p.now c.name ⊎ There (slice_cmp nat_cmp) (λ (x : Collection). x.name) p.now c.name
          → total_documents after ≡ p.documents + 1
      at (inl g) = let never : None ≡ Some c = sym (missing p.now g.0 c.name g.1) ∙ it in absurd cc
      at (inr t) =
          let put : after ≡ set p.now t.place with_it = replaced p.now t.place c.name with_it s.loaded.lawful.apart t.within (t.same no_collection) refl in
          let here : collection_at p.now t.place ≡ c =
          some_same (sym (found_at p.now t.place c.name s.loaded.lawful.apart t.within (t.same no_collection)) ∙ it) in
          omega (
            arith,
            ap total_documents put,
            count_set p.now t.place with_it no_collection t.within,
            ap (λ (x : Collection). length x.documents) here,
            longer,
            s.documents,
          )
        where
          some_same : {x y : Collection} → Some x ≡ Some y → x ≡ y
          some_same e = cc

  pub document_step : Stands all (done ++ pair ∷ [])
      (record { now = after; documents = p.documents + 1; keys = p.keys + key_count (keys_among c.indexes d); seen = p.seen })
  document_step = record {
    loaded = subst AreLoaded now_is (document_loaded (listed_of p.now) p.now pair (bare c) d (record { named = refl; loaded = s.loaded }) told is).loaded;
    made = λ x h none. elim (among_append x done (pair ∷ []) h) [
      | inl g ↦ plain_on x (s.made x g none)
      | inr g ↦ record
          { collection = with_it; there = it_there; is = inr (record { document = d; there = new_document; is = one_of_one x pair g ∙ is.pair_is }) }
    ];
    plain = λ x h. elim (plain_back x h) [
      | inl g ↦ among_front x done (pair ∷ []) (s.plain x g)
      | inr e ↦ among_back x done (pair ∷ []) (inl e)
    ];
    owed = s.owed ++ news;
    owing = λ x h. elim (among_append x s.owed news h) [
      | inl g ↦ keyed_on x (s.owing x g)
      | inr g ↦ record { collection = with_it; there = it_there; is = news_of_it x g }
    ];
    keyed = keyed_back;
    there = λ x h. elim (among_append x s.owed news h) [ inl g ↦ s.there x g | inr g ↦ news_there x g ];
    once = once_append s.owed news s.once (owed_once c d kept good) news_apart;
    documents = one_more;
    keys = omega (arith, length-append s.owed news, s.keys, owed_long c.number c.indexes d);
    seen = seen_same done pair (under_none pair c.number (tree_text (key_of d)) (ap (λ (x : Entry). x.key) is.pair_is)) ∙ s.seen;
  }
    where
      told : numbered c.number (listed_of p.now) ≡ Some (bare c)
      told = listed_numbered p.now found
        where
          listed_numbered : (cs : List Collection) → numbered c.number cs ≡ Some c → numbered c.number (listed_of cs) ≡ Some (bare c)
          listed_numbered [] e = absurd cc
          listed_numbered (x ∷ cs) e = by (x.number == c.number) e (listed_numbered cs)
            where
              some_same : {y z : Collection} → Some y ≡ Some z → y ≡ z
              some_same e = cc

              by : (b : Bool) → (if b then Some x else numbered c.number cs) ≡ Some c
                  → (numbered c.number cs ≡ Some c → numbered c.number (listed_of cs) ≡ Some (bare c))
                  → (if b then Some (bare x) else numbered c.number (listed_of cs)) ≡ Some (bare c)
              by true e later = ap (λ (y : Collection). Some (bare y)) (some_same e)
              by false e later = later e
