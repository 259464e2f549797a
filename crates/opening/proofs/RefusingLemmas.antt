-- No entry of lawful collections is refused, and they have as many entries of indexes as their documents have keys.
use Rattle.std.proofs.Common.{◌≡◌, ℕ, ◌+◌, ◌<◌, ◌≤◌, Bool, true, false, not, ◌&&◌, ◌||◌, List, [], ◌∷◌, ◌++◌, length, map, Some, inl, inr, refl, sym, ap}
use Rattle.std.proofs.Common.{subst, ◌∙◌, arith, append_assoc, eqb-true, Result, Ok}
use Rattle.std.specs.Prelude.{All, ◌==◌, Option}
use Rattle.std.specs.Cmp.{nat_cmp_is}
use Rattle.std.specs.Ordering.{is_eq, nat_cmp, is_lt, ordering_then}
use Rattle.std.specs.Cmp.Lexicographic.{slice_cmp}
use Rattle.std.specs.declared.cmp.Ordering.{Ordering}
use Rattle.std.specs.declared.cmp.Ordering.TheVariants as orders
use Rattle.std.proofs.lemmas.Cmp.{tied_itself}
use Rattle.std.proofs.lemmas.List.{length-map}
use Rattle.outcome.specs.Outcome.{unless}
use Rattle.bson.specs.Spelling.{frame_of, pairs_bytes}
use Rattle.bson_bytes.proofs.TreeLaws.{one_spelling}
use Rattle.bson.specs.Tree.{Pairs}
use Rattle.value_order.specs.Order.{compare}
use Rattle.value_order.specs.KeyText.{tree_text}
use Rattle.value_order.specs.TotalLaws.{compare_total}
use Rattle.tree_model.specs.Keys.{Each, Entry, IsUnder, Rises, key_cmp, value_at}
use Rattle.tree_model.proofs.KeyLemmas.{not_both, not_under_itself}
use Rattle.path.specs.declared.refusal.Refusal.{Refusal}
use Rattle.path.specs.declared.refusal.Refusal.TheVariants as refusals
use Rattle.index.specs.Changes.{is_among}
use Rattle.index.specs.Definition.{Definition, Field}
use Rattle.entry_model.specs.Entering.{becomes_multikey}
use Rattle.index.specs.IndexKeys.{has_parallel_arrays, is_multikey}
use Rattle.index.specs.KeyTexts.{encoded_keys, entry_key, is_too_long, keys_in}
use Rattle.entry_model.specs.LawfulState.{IsStorable, ShareNoKey}
use Rattle.entries.specs.OtherKeys.{another_has, has_other_key}
use Rattle.entry_model.specs.State.{Collection, key_of, put_collection, words}
use Rattle.entry_model.specs.StateEntries.{Spells, catalogue_entry, document_entry, entry_keys, index_entry, key_under}
use Rattle.entry_model.specs.StateReads.{SpellsLawful}
use Rattle.entries.proofs.EntryLemmas.{IsKeyOf, IsOneOf, document_among, keyed_among, same_first}
use Rattle.entries.proofs.ExchangeLaws.{entry_value}
use Rattle.entries.proofs.FitLaws.{key_size}
use Rattle.entries.proofs.HomeLemmas.{document_or_key, inside_of, not_inside, number_fits, one_number}
use Rattle.entry_model.proofs.LawfulParts.{kept_of, storable_of, listed_of as indexed_of}
use Rattle.entry_model.proofs.KeyOfDocument.{among_test}
use Rattle.entry_model.proofs.MemberLemmas.{Among, among_append, among_back, among_front, among_image, among_map, contains_of, of_all, of_pairs}
use Rattle.entries.proofs.OtherKeyLaws.{tells_other_key}
use Rattle.entry_model.proofs.PlaceLemmas.{name_itself}
use Rattle.entries.proofs.ReadLaws.{in_map, there_of}
use Rattle.entries.proofs.WindowLemmas.{under_cmp}
use Rattle.collections.specs.IndexChecks.{has_entry, is_empty_at, lacks_any, lacks_key, lacks_one}
use Rattle.opening.specs.Judging.{HasItsKeys, IsIndexable, MakesNone, Progress, RefusesOne, Takes, bare, is_of_index, key_count, keys_among, listed_of}
use Rattle.opening.specs.Judging.{nothing_read, stands_behind, with_document_at}
use Rattle.database_model.specs.Lawful.{IsStored}
use Rattle.opening.proofs.EntriesSoFar.{Stands, catalogue_none, document_none, key_some, nothing_stands}
use Rattle.opening.proofs.FileEntries.{all_stand, each_before, one_step, owed_seen}
use Rattle.opening.proofs.OnceLists.{AreOnce, once_fits, once_only, only, only_told, rises_once}
use Rattle.opening.proofs.TakingLemmas.{find_there}
use Rattle.opening.proofs.RefusingCatalogues.{any_none, all_behind, numbered_there, names_once}
use Rattle.opening.proofs.RefusingCatalogues.{names_order, IsLike, same_catalogue, plain_one}
use Rattle.opening.proofs.RefusingCatalogues.{bare_kept}
use Rattle.bson.specs.Spelling.{Spells as SpellsDocument}
use Rattle.entry_model.specs.LawfulState.{IsKept as IsIndexKept}
use Rattle.entry_model.specs.LawfulState.{IsLawfulState as IsIndexLawful}

-- ---- the documents' entries

pub document_spells : (d : Pairs) → IsStorable d → SpellsDocument (frame_of (pairs_bytes d)) d
document_spells d h = record { lawful = h.lawful; spelled = refl; size = omega (arith, h.size) }

-- a document's entry in the one is that of the document in the other
same_document : (c e : Collection) (d : Pairs) → IsIndexKept c → IsIndexKept e → Among d c.documents → IsOneOf e (document_entry c.number d)
    → (c.number ≡ e.number) × Among d e.documents
same_document c e d kept other there (inl f) =
    absurd (not_inside e c (document_entry c.number d) (document_entry c.number d) kept f
    (inside_of c (document_entry c.number d) (inl (record { document = d; there = there; is = refl }))) refl)
same_document c e d kept other there (inr (inl g)) =
    let keys : key_under c.number 0 (tree_text (key_of d)) ≡ key_under e.number 0 (tree_text (key_of g.document)) = ap (λ (y : Entry). y.key) g.is in
    let same : d ≡ g.document =
    (one_spelling (frame_of (pairs_bytes d)) (frame_of (pairs_bytes g.document)) [] [] d g.document (document_spells d (storable_of c d kept there))
    (document_spells g.document (storable_of e g.document other g.there))
    (ap (λ (y : Entry). y.value ++ []) g.is)).0 in (
      same_first c.number e.number 0 0 (tree_text (key_of d)) (tree_text (key_of g.document)) (number_fits c kept) (number_fits e other) keys,
      subst (λ (f : Pairs). Among f e.documents) (sym same) g.there,
    )
same_document c e d kept other there (inr (inr k)) =
    absurd (document_or_key c e (document_entry c.number d) (document_entry c.number d) kept other (record { document = d; there = there; is = refl }) k refl)

let_through : {X : Type 0} (b : Bool) (r : Refusal) (x : Result X Refusal) (y : X) → unless b r x ≡ Ok y → (b ≡ false) × (x ≡ Ok y)
let_through true r x y e = absurd cc
let_through false r x y e = (refl, e)

keyed_one : (fs : List Field) (d : Pairs) → keys_in fs d ≡ Ok (encoded_keys fs d) → (is_too_long fs d ≡ false) × (has_parallel_arrays fs d ≡ false)
keyed_one fs d e =
    let first = let_through (is_too_long fs d) refusals.KeyTooLong
    (unless (has_parallel_arrays fs d) refusals.CannotIndexParallelArrays (Ok (encoded_keys fs d))) (encoded_keys fs d) e in
    let second = let_through (has_parallel_arrays fs d) refusals.CannotIndexParallelArrays (Ok (encoded_keys fs d)) (encoded_keys fs d) first.1 in
    (first.0, second.0)

-- a document of a collection within the limits is refused by none of its indexes
indexable_in : (c : Collection) (d : Pairs) → IsIndexKept c → Among d c.documents → IsIndexable c.indexes d
indexable_in c d kept inside = record {
  keys = λ k. unless (any_none (λ i. is_too_long i.fields d) c.indexes (λ i there. (keyed i there).0) k) refusals.KeyTooLong
      (unless (any_none (λ i. has_parallel_arrays i.fields d) c.indexes (λ i there. (keyed i there).1) k) refusals.CannotIndexParallelArrays
      (Ok (keys_among c.indexes d)));
  noted = any_none (becomes_multikey d) c.indexes
      (λ i there. not_becoming i.is_multi (is_multikey i.fields d)
      (of_all (λ e. is_multikey i.fields e ≡ true → i.is_multi ≡ true) c.documents d (indexed_of c i kept there).multi inside));
}
  where
    keyed : (i : Definition) → Among i c.indexes → (is_too_long i.fields d ≡ false) × (has_parallel_arrays i.fields d ≡ false)
    keyed i there = keyed_one i.fields d (of_all (λ e. keys_in i.fields e ≡ Ok (encoded_keys i.fields e)) c.documents d (indexed_of c i kept there).keys inside)

    not_becoming : (was many : Bool) → (many ≡ true → was ≡ true) → (not was && many) ≡ false
    not_becoming true many h = refl
    not_becoming false true h = absurd (let never : false ≡ true = h refl in cc)
    not_becoming false false h = refl

no_key_lacks : (n : ℕ) (i : Definition) (id : List ℕ) (keys : List (List ℕ)) (all : List Entry)
    → ((key : List ℕ) → Among key keys → lacks_key n i id key all ≡ false) → lacks_one n i id keys all ≡ false
no_key_lacks n i id [] all h = refl
no_key_lacks n i id (key ∷ keys) all h =
    ap (λ (b : Bool). b || lacks_one n i id keys all) (h key (inl refl)) ∙ no_key_lacks n i id keys all (λ k there. h k (inr there))

none_lacks : (n : ℕ) (id : List ℕ) (is : List Definition) (d : Pairs) (all : List Entry)
    → ((i : Definition) → Among i is → (key : List ℕ) → Among key (encoded_keys i.fields d) → lacks_key n i id key all ≡ false)
    → lacks_any n id is (keys_among is d) all ≡ false
none_lacks n id [] d all h = refl
none_lacks n id (i ∷ is) d all h =
    ap (λ (b : Bool). b || lacks_any n id is (keys_among is d) all) (no_key_lacks n i id (encoded_keys i.fields d) all (h i (inl refl)))
    ∙ none_lacks n id is d all (λ j there. h j (inr there))

and_false : (b : Bool) → (b && false) ≡ false
and_false true = refl
and_false false = refl

module _ (all : List Entry) (cs : List Collection) (spells : Spells all cs) (lawful : IsIndexLawful cs) where
  all_lawful : SpellsLawful all cs
  all_lawful = record { lawful = lawful; spells = spells }

  module _ (c : Collection) (there : Among c cs) (d : Pairs) (inside : Among d c.documents) where
    kept_one : IsIndexKept c
    kept_one = kept_of cs c lawful there

    good : IsStorable d
    good = storable_of c d kept_one inside

    none_other : (i : Definition) (key : List ℕ) → Among i c.indexes → Among key (encoded_keys i.fields d) → i.is_unique ≡ true
        → another_has i key (key_of d) c.documents ≡ false
    none_other i key listed mine unique =
        any_none (λ e. is_among (encoded_keys i.fields e) key && not (is_eq (compare (key_of d) (key_of e)))) c.documents (λ e in_c. at e in_c)
      where
        has_it : is_among (encoded_keys i.fields d) key ≡ true
        has_it = among_test (encoded_keys i.fields d) key mine

        lacks_it : (e : Pairs) → ShareNoKey i.fields e d → (b : Bool) → is_among (encoded_keys i.fields e) key ≡ b → b ≡ false
        lacks_it e share true has = absurd (let never : true ≡ false = sym has_it ∙ share key has in cc)
        lacks_it e share false has = refl

        at : (e : Pairs) → Among e c.documents → (is_among (encoded_keys i.fields e) key && not (is_eq (compare (key_of d) (key_of e)))) ≡ false
        at e in_c = elim (of_pairs (ShareNoKey i.fields) c.documents d e ((indexed_of c i kept_one listed).unique unique) inside in_c) [
          | inl same ↦ ap (λ (o : Ordering). is_among (encoded_keys i.fields e) key && not (is_eq o))
              (ap (λ (f : Pairs). compare (key_of f) (key_of e)) same ∙ tied_itself compare_total (key_of e))
              ∙ and_false (is_among (encoded_keys i.fields e) key)
          | inr (inl share) ↦ ap (λ (b : Bool). b && not (is_eq (compare (key_of d) (key_of e)))) (share key has_it)
          | inr (inr share) ↦ ap (λ (b : Bool). b && not (is_eq (compare (key_of d) (key_of e))))
              (lacks_it e share (is_among (encoded_keys i.fields e) key) refl)
        ]

    stands_so : (i : Definition) → Among i c.indexes → (key : List ℕ) → Among key (encoded_keys i.fields d)
        → lacks_key c.number i (tree_text (key_of d)) key all ≡ false
    stands_so i listed key mine =
        let x = index_entry c.number i.number (key_of d) key in
        let stands : Among x all = in_map all cs all_lawful c x there (keyed_among c d i key inside listed mine) in
        let value : value_at (entry_key c.number i.number key (tree_text (key_of d))) all ≡ Some [] = entry_value x all spells.rises stands in
        let has : not (has_entry c.number i.number key (tree_text (key_of d)) all) ≡ false = ap (λ (o : Option (List ℕ)). not (is_empty_at o)) value in
        (λ k. has k || (i.is_unique && has_other_key c.number i.number key (tree_text (key_of d)) all)) ∙ alone i.is_unique refl
      where
        alone : (b : Bool) → i.is_unique ≡ b → (b && has_other_key c.number i.number key (tree_text (key_of d)) all) ≡ false
        alone false e = refl
        alone true e =
            tells_other_key all cs c i d key all_lawful (find_there cs c lawful.apart there) (contains_of c.indexes i listed) good
            (among_test (encoded_keys i.fields d) key mine)
            ∙ none_other i key listed mine e

    has_its_keys : HasItsKeys all c d
    has_its_keys = none_lacks c.number (tree_text (key_of d)) c.indexes d all stands_so

-- ---- an entry behind others

module _ (all : List Entry) (cs : List Collection) (spells : Spells all cs) (lawful : IsIndexLawful cs) (stored : All (λ c. All IsStored c.documents) cs)
    (done : List Entry) (pair : Entry) (rest : List Entry) (split : all ≡ done ++ pair ∷ rest) (p : Progress) (s : Stands all done p) where
  holds : SpellsLawful all cs
  holds = record { lawful = lawful; spells = spells }

  rises : Rises (entry_keys (done ++ pair ∷ rest))
  rises = subst (λ (es : List Entry). Rises (entry_keys es)) split spells.rises

  under : (x : Entry) → Among x done → IsUnder x.key pair.key
  under x there = each_before pair done rest rises x there

  in_all : (x : Entry) → Among x done → Among x all
  in_all x there = subst (Among x) (sym split) (among_front x done (pair ∷ rest) there)

  pair_there : Among pair all
  pair_there = subst (Among pair) (sym split) (among_back pair done (pair ∷ rest) (inl refl))

  -- what is below the entry is one of those before
  is_done : (x : Entry) → Among x all → IsUnder x.key pair.key → Among x done
  is_done x there below = elim (among_append x done (pair ∷ rest) (subst (Among x) split there)) [
    | inl before ↦ before
    | inr later ↦ absurd (not_later done rises later)
  ]
    where
      not_later : (front : List Entry) → Rises (entry_keys (front ++ pair ∷ rest)) → Among x (pair ∷ rest) → ⊥
      not_later (y ∷ front) up there = not_later front up.1 there
      not_later [] up (inl e) = not_under_itself pair.key (subst (λ (y : Entry). IsUnder y.key pair.key) e below)
      not_later [] up (inr there) = not_both x.key pair.key below (each_key rest x up.0 there)
        where
          each_key : (xs : List Entry) (x : Entry) → Each (λ y. IsUnder pair.key y) (entry_keys xs) → Among x xs → IsUnder pair.key x.key
          each_key [] x h there = absurd there
          each_key (z ∷ zs) x h (inl e) = subst (λ (y : Entry). IsUnder pair.key y.key) (sym e) h.0
          each_key (z ∷ zs) x h (inr there) = each_key zs x h.1 there

  kept_so_far : (x : Collection) → Among x p.now → IsIndexKept x
  kept_so_far x there = kept_of p.now x s.loaded.lawful there

  its_entry : (x : Collection) → Among x p.now → Among (catalogue_entry x) done
  its_entry x there = s.plain (catalogue_entry x) (record { collection = x; there = there; is = inl refl })

  -- a collection so far is one of them all
  record IsThere (x : Collection) : Type 0 where
    one : Collection
    there : Among one cs
    like : IsLike x one

  like_there : (x : Collection) → Among x p.now → IsThere x
  like_there x there =
      let home = there_of all cs holds (catalogue_entry x) (in_all (catalogue_entry x) (its_entry x there)) in
      record {
        one = home.collection;
        there = home.there;
        like = same_catalogue x home.collection (kept_so_far x there) (kept_of cs home.collection lawful home.there) home.one;
      }

  module _ (c : Collection) (there : Among c cs) where
    kept : IsIndexKept c
    kept = kept_of cs c lawful there

    less : pair ≡ catalogue_entry c → (x : Collection) → Among x p.now → slice_cmp nat_cmp x.name c.name ≡ orders.Less
    less is x before =
        sym (names_order x c (kept_so_far x before) kept)
        ∙ subst (λ (q : Entry). IsUnder (catalogue_entry x).key q.key) is (under (catalogue_entry x) (its_entry x before))

    behind : pair ≡ catalogue_entry c → (x : Collection) → Among x p.now → stands_behind (bare c) (bare x) ≡ true
    behind is x before =
        let other : (x.number == c.number) ≡ false = apart (less is x before) (x.number == c.number) refl in
        (λ i. is_lt (less is x before i) && not (other i))
      where
        apart : slice_cmp nat_cmp x.name c.name ≡ orders.Less → (b : Bool) → (x.number == c.number) ≡ b → b ≡ false
        apart below false e = refl
        apart below true e =
            let at = like_there x before in
            let numbers : x.number ≡ c.number = eqb-true x.number c.number e in
            let same : at.one ≡ c = one_number cs at.one c lawful.numbers at.there there (sym at.like.number ∙ numbers) in
            let named : x.name ≡ c.name = at.like.name ∙ ap (λ (y : Collection). y.name) same in
            absurd (name_itself c.name (subst (λ (m : List ℕ). slice_cmp nat_cmp m c.name ≡ orders.Less) named below))

    room : pair ≡ catalogue_entry c → length (listed_of p.now) < 1000
    room is =
        let name_of : Collection → List ℕ = λ x. x.name in
        let fits : length (c.name ∷ map (λ (x : Collection). x.name) p.now) ≤ length (map (λ (x : Collection). x.name) cs) =
        once_fits (c.name ∷ map (λ (x : Collection). x.name) p.now) (map (λ (x : Collection). x.name) cs) once within in
        omega (arith, fits, length-map p.now (λ (x : Collection). x.name), length-map cs (λ (x : Collection). x.name), length-map p.now bare, lawful.few)
      where
        once : AreOnce (c.name ∷ map (λ (x : Collection). x.name) p.now)
        once = (
          (λ h.
              let m = among_map (λ (x : Collection). x.name) c.name p.now h in
              name_itself c.name (subst (λ (n : List ℕ). slice_cmp nat_cmp n c.name ≡ orders.Less) (sym m.2) (less is m.0 m.1))),
          names_once p.now s.loaded.lawful.apart,
        )

        within : (n : List ℕ) → Among n (c.name ∷ map (λ (x : Collection). x.name) p.now) → Among n (map (λ (x : Collection). x.name) cs)
        within n (inl e) = subst (λ (m : List ℕ). Among m (map (λ (x : Collection). x.name) cs)) (sym e) (among_image (λ (x : Collection). x.name) c cs there)
        within n (inr h) =
            let m = among_map (λ (x : Collection). x.name) n p.now h in
            let at = like_there m.0 m.1 in
            subst (λ (k : List ℕ). Among k (map (λ (x : Collection). x.name) cs)) (sym (m.2 ∙ at.like.name))
            (among_image (λ (x : Collection). x.name) at.one cs at.there)

    takes_name : pair ≡ catalogue_entry c → (next : Progress) × Takes all p pair next
    takes_name is = (
      record p { now = put_collection (bare c) p.now },
      inl (record {
        name = bare c;
        is = record { pair_is = is; plain = refl; kept = bare_kept c kept; behind = all_behind (bare c) p.now (behind is); room = room is };
        next_is = refl;
      }),
    )

    abbrev with_it : Collection → Pairs → Progress
    with_it e d = record
        { now = with_document_at e.number d p.now; documents = p.documents + 1; keys = p.keys + key_count (keys_among e.indexes d); seen = p.seen }

    takes_document : (d : Pairs) → Among d c.documents → pair ≡ document_entry c.number d → (next : Progress) × Takes all p pair next
    takes_document d inside is =
        let first : Among (catalogue_entry c) all = in_map all cs holds c (catalogue_entry c) there (inl refl) in
        let low : nat_cmp 0 c.number ≡ orders.Less = sym (nat_cmp_is 0 c.number orders.Less (omega (arith, kept.least))) in
        let below : IsUnder (catalogue_entry c).key pair.key =
        subst (λ (q : Entry). IsUnder (catalogue_entry c).key q.key) (sym is)
        (under_cmp 0 c.number 0 0 (tree_text (words c.name)) (tree_text (key_of d)) (omega arith) (number_fits c kept) (omega arith) (omega arith)
        ∙ ap (λ (o : Ordering). ordering_then o (ordering_then (nat_cmp 0 0) (key_cmp (tree_text (words c.name)) (tree_text (key_of d))))) low) in
        let told = s.made (catalogue_entry c) (is_done (catalogue_entry c) first below) (catalogue_none c (catalogue_entry c) refl) in
        let e = told.collection in
        let like = same_catalogue c e kept (kept_so_far e told.there) (plain_one p.now (catalogue_entry c) told) in (
          with_it e d,
          inr (inl (record {
            collection = bare e;
            document = d;
            listed = numbered_there p.now e s.loaded.lawful.numbers told.there;
            is = record {
              pair_is = is ∙ ap (λ (n : ℕ). document_entry n d) like.number;
              stored = of_all IsStored c.documents d (of_all (λ (x : Collection). All IsStored x.documents) cs c stored there) inside;
              readable = (storable_of c d kept inside).lawful;
              indexable = subst (λ (is : List Definition). IsIndexable is d) like.indexes (indexable_in c d kept inside);
            };
            keyed = (λ k. lacks_any (sym like.number k) (tree_text (key_of d)) (sym like.indexes k) (keys_among (sym like.indexes k) d) all)
                ∙ has_its_keys all cs spells lawful c there d inside;
            next_is = refl {a = with_it e d};
          })),
        )

    takes_key : IsKeyOf c pair → (next : Progress) × Takes all p pair next
    takes_key k = (
      record p { seen = p.seen + 1 },
      inr (inr (record {
        long = omega (arith, ap (λ (x : Entry). length x.key) k.is, key_size c.number k.index.number (k.key ++ tree_text (key_of k.document)));
        is = key_some c pair kept k;
        next_is = refl;
      })),
    )

    by_kind : IsOneOf c pair → (next : Progress) × Takes all p pair next
    by_kind (inl is) = takes_name is
    by_kind (inr (inl d)) = takes_document d.document d.there d.is
    by_kind (inr (inr k)) = takes_key k

  pub is_taken : (next : Progress) × Takes all p pair next
  is_taken = let home = there_of all cs holds pair pair_there in by_kind home.collection home.there home.one

-- ---- entry after entry

module _ (all : List Entry) (cs : List Collection) (spells : Spells all cs) (lawful : IsIndexLawful cs) (stored : All (λ c. All IsStored c.documents) cs) where
  none_from : (done pairs : List Entry) (p : Progress) → all ≡ done ++ pairs → Stands all done p → RefusesOne all p pairs → ⊥
  none_from done [] p split s refuses = refuses
  none_from done (pair ∷ pairs) p split s (inl refuses) =
      let t = is_taken all cs spells lawful stored done pair pairs split p s in refuses t.0 t.1
  none_from done (pair ∷ pairs) p split s (inr (next, takes, later)) =
      let up : Rises (entry_keys (done ++ pair ∷ pairs)) = subst (λ (es : List Entry). Rises (entry_keys es)) split spells.rises in
      none_from (done ++ pair ∷ []) pairs next (split ∙ sym (append_assoc done (pair ∷ []) pairs)) (one_step all done pairs pair p next up s takes) later

  -- ---- as many entries of indexes as keys

  module _ (end : Progress) (s : Stands all all end) where
    whole : SpellsLawful all cs
    whole = record { lawful = lawful; spells = spells }

    -- what is an index's is owed
    seen_owed : (x : Entry) → Among x (only is_of_index all) → Among x s.owed
    seen_owed x h =
        let told = only_told is_of_index all x h in
        let home = there_of all cs whole x told.0 in
        by told.1 home.collection home.there home.one
      where
        never : {A : Type 0} → is_of_index x ≡ true → is_of_index x ≡ false → A
        never is isnt = absurd (let no : true ≡ false = sym is ∙ isnt in cc)

        by : is_of_index x ≡ true → (c : Collection) → Among c cs → IsOneOf c x → Among x s.owed
        by is c there (inl e) = never is (catalogue_none c x e)
        by is c there (inr (inl d)) = never is (document_none c x d)
        by is c there (inr (inr k)) =
            let kept = kept_of cs c lawful there in
            let first = s.made (catalogue_entry c) (in_map all cs whole c (catalogue_entry c) there (inl refl)) (catalogue_none c (catalogue_entry c) refl) in
            let e = first.collection in
            let e_kept = kept_of end.now e s.loaded.lawful first.there in
            let like = same_catalogue c e kept e_kept (plain_one end.now (catalogue_entry c) first) in
            let y = document_entry c.number k.document in
            let second =
            s.made y (in_map all cs whole c y there (document_among c k.document k.there))
            (document_none c y (record { document = k.document; there = k.there; is = refl })) in
            let f = second.collection in
            let same = same_document c f k.document kept (kept_of end.now f s.loaded.lawful second.there) k.there (plain_one end.now y second) in
            let one : f ≡ e = one_number end.now f e s.loaded.lawful.numbers second.there first.there (sym same.0 ∙ like.number) in
            s.keyed x (record {
              collection = e;
              there = first.there;
              is = record {
                document = k.document;
                there = subst (λ (g : Collection). Among k.document g.documents) one same.1;
                index = k.index;
                listed = subst (Among k.index) like.indexes k.listed;
                key = k.key;
                keyed = k.keyed;
                is = k.is ∙ ap (λ (n : ℕ). index_entry n k.index.number (key_of k.document) k.key) like.number;
              };
            })

    even : end.keys ≡ end.seen
    even =
        let few : length s.owed ≤ length (only is_of_index all) = once_fits s.owed (only is_of_index all) s.once (owed_seen all end s) in
        let many : length (only is_of_index all) ≤ length s.owed =
        once_fits (only is_of_index all) s.owed (once_only is_of_index all (rises_once all spells.rises)) seen_owed in
        omega (arith, few, many, s.keys, s.seen)

  -- Entries of lawful collections make some.
  pub none_unmade : MakesNone all → ⊥
  none_unmade (inl refuses) = none_from [] all nothing_read refl (nothing_stands all) refuses
  none_unmade (inr (end, takes, differ)) = differ (even end (all_stand all end spells.rises takes))
