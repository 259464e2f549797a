-- An index is made of a collection's documents, one after the other, and one is dropped.
use Rattle.std.proofs.Common.{◌≡◌, ◌≢◌, inl, inr, ◌+◌, ◌<◌, ◌≤◌, ℕ, suc, Bool, true, false, ◌&&◌, ◌||◌, List, [], ◌∷◌, ◌++◌, length, get_or, take, drop, map}
use Rattle.std.proofs.Common.{Option, Some, None, Result, Ok, Err, refl, sym, ap, subst, ◌∙◌, arith, append_assoc}
use Rattle.std.specs.Prelude.{All, if◌then◌else◌, is_some}
use Rattle.std.specs.List.{AllPairs, list_any, remove}
use Rattle.std.specs.Ordering.{is_eq}
use Rattle.std.specs.declared.cmp.Ordering.{Ordering}
use Rattle.std.specs.declared.cmp.Ordering.TheVariants as orders
use Rattle.std.proofs.lemmas.List.{map-append}
use Rattle.std.proofs.lemmas.List.Elements.{All-head}
use Rattle.bson.specs.Tree.{Pairs}
use Rattle.value_order.specs.KeyText.{tree_text}
use Rattle.value_order.specs.Order.{compare}
use Rattle.tree_model.specs.Keys.{edit_keys}
use Rattle.tree_model.specs.Keys.{Edit, Rises, change}
use Rattle.outcome.specs.Outcome.{◌>>=◌, unless}
use Rattle.path.specs.declared.refusal.Refusal.{Refusal}
use Rattle.path.specs.declared.refusal.Refusal.TheVariants as refusals
use Rattle.index.specs.Changes.{is_among}
use Rattle.index.specs.Definition.{Definition}
use Rattle.entry_model.specs.Documents.{put_document}
use Rattle.entry_model.specs.Entering.{AreIndexed, DocumentWrite, clashes, enter_each, entered, is_duplicate, is_other, with_document}
use Rattle.entries.specs.IndexBuilding.{HasPutEntries, HasRemovedEntries}
use Rattle.entries.specs.IndexMaking.{Begins, DropsIndexAt, HasEntries, MakesIndexOf, RefusesNext, TakesNext}
use Rattle.entry_model.specs.WithIndex.{alone, as_new, with_index, without_index_at}
use Rattle.entries.specs.Indexed.{GoesOnBy, catalogue_put}
use Rattle.index.specs.IndexKeys.{has_parallel_arrays, is_multikey, noted}
use Rattle.index.specs.KeyTexts.{encoded_keys, is_too_long, keys_in, keys_in_all}
use Rattle.entry_model.specs.LawfulState.{IsIndexOf, IsKept, IsRising, IsStorable}
use Rattle.entries.specs.OtherKeys.{another_has, has_other_key, is_another, puts_another, puts_any}
use Rattle.entry_model.specs.State.{Collection, by_order, find_collection, key_of}
use Rattle.entry_model.specs.StateEntries.{index_entries, key_under, puts}
use Rattle.entry_model.specs.StateLaws.{MayBecome}
use Rattle.entry_model.specs.StateReads.{find_document}
use Rattle.entries.specs.declared.making.NewEntries.{NewEntries}
use Rattle.entries.proofs.BuildingLaws.{drops_index_of_all, makes_index_of_all, puts_one_more}
use Rattle.entry_model.proofs.DocumentPlaces.{turned}
use Rattle.entries.proofs.EditLemmas.{rises_change}
use Rattle.entry_model.proofs.EnteringLemmas.{stay_indexed}
use Rattle.entry_model.proofs.LawfulParts.{kept_of}
use Rattle.entries.proofs.IndexedLaws.{known_one}
use Rattle.entry_model.proofs.KeptSteps.{kept_with_index, kept_without_index, noted_number, cut_at}
use Rattle.entry_model.proofs.LawfulLaws.{all_of, pairs_of, stays_lawful}
use Rattle.entry_model.proofs.MemberLemmas.{Among, among_back, among_front, first_of, of_all}
use Rattle.entries.proofs.OtherEditLaws.{after_edits}
use Rattle.entries.proofs.OtherKeyLaws.{tells_put}
use Rattle.entry_model.proofs.PlaceLemmas.{found_in, found_name}
use Rattle.entries.proofs.SharedKeyLemmas.{is_there, swapped}

pub none_left : {X : Type 0} (xs : List X) → length xs ≤ 0 → xs ≡ []
none_left [] le = refl
none_left (x ∷ xs) le = absurd (omega (arith, le))

-- ---- a document behind all others

abbrev Below : Pairs → Pairs → Type 0
Below e d = compare (key_of e) (key_of d) ≡ orders.Less

before_last : (d : Pairs) (ds : List Pairs) → IsRising (ds ++ d ∷ []) → (e : Pairs) → Among e ds → Below e d
before_last d [] rising e there = absurd there
before_last d (x ∷ ds) rising e (inl is) =
    subst (λ (f : Pairs). Below f d) (sym is) (first_of Below x (ds ++ d ∷ []) d rising (among_back d ds (d ∷ []) (inl refl)))
before_last d (x ∷ ds) rising e (inr there) =
    before_last d ds (λ i j f less below. rising (suc i) (suc j) f (omega (arith, less)) (omega (arith, below))) e there

put_last : (d : Pairs) (ds : List Pairs) → ((e : Pairs) → Among e ds → Below e d) → put_document d ds ≡ ds ++ d ∷ []
put_last d [] behind = refl
put_last d (x ∷ ds) behind =
    ap (λ (o : Ordering). by_order o (d ∷ x ∷ ds) (d ∷ ds) (x ∷ put_document d ds)) (turned (key_of x) (key_of d) orders.Less (behind x (inl refl)))
    ∙ ap (λ (es : List Pairs). x ∷ es) (put_last d ds (λ e there. behind e (inr there)))

not_found : (d : Pairs) (ds : List Pairs) → ((e : Pairs) → Among e ds → Below e d) → find_document ds (key_of d) ≡ None
not_found d [] behind = refl
not_found d (x ∷ ds) behind =
    ap (λ (o : Ordering). if is_eq o then Some x else find_document ds (key_of d)) (turned (key_of x) (key_of d) orders.Less (behind x (inl refl)))
    ∙ not_found d ds (λ e there. behind e (inr there))

-- ---- one after the other

abbrev is_ok : Collection → Result Collection Refusal
is_ok c = Ok c

each_append : (ws vs : List DocumentWrite) (c : Collection) → enter_each c (ws ++ vs) ≡ (enter_each c ws >>= (λ m. enter_each m vs))
each_append [] vs c = refl
each_append (w ∷ ws) vs c = by (entered c w) (each_append ws vs)
  where
    by : (r : Result Collection Refusal) → ((m : Collection) → enter_each m (ws ++ vs) ≡ (enter_each m ws >>= (λ n. enter_each n vs)))
        → (r >>= (λ m. enter_each m (ws ++ vs))) ≡ ((r >>= (λ m. enter_each m ws)) >>= (λ m. enter_each m vs))
    by (Err e) later = refl
    by (Ok m) later = later m

one_entered : (c : Collection) (w : DocumentWrite) → enter_each c (w ∷ []) ≡ entered c w
one_entered c w = by (entered c w)
  where
    by : (r : Result Collection Refusal) → (r >>= (λ m. enter_each m [])) ≡ r
    by (Err e) = refl
    by (Ok m) = refl

-- ---- an index alone

or_false : (b : Bool) → (b || false) ≡ b
or_false true = refl
or_false false = refl

keys_alone : (i : Definition) (d : Pairs) → keys_in_all (i ∷ []) d ≡ (keys_in i.fields d >>= (λ keys. Ok (keys ∷ [])))
keys_alone i d = by (is_too_long i.fields d) (has_parallel_arrays i.fields d)
  where
    by : (a b : Bool) → unless (a || false) refusals.KeyTooLong (unless (b || false) refusals.CannotIndexParallelArrays (Ok (encoded_keys i.fields d ∷ [])))
        ≡ (unless a refusals.KeyTooLong (unless b refusals.CannotIndexParallelArrays (Ok (encoded_keys i.fields d))) >>= (λ keys. Ok (keys ∷ [])))
    by true b = refl
    by false true = refl
    by false false = refl

entries_noted : (old new : List Edit) (m : ℕ) (d : Pairs) (i : Definition) (ds : List Pairs) → HasPutEntries old new m i ds
    → HasPutEntries old new m (noted d i) ds
entries_noted old new m d i ds h =
    elim (is_multikey i.fields d) as (λ (b : Bool). HasPutEntries old new m (if b then record i { is_multi = true } else i) ds) [ true ↦ h | false ↦ h ]

pub begins : (number : ℕ) (i : Definition) (n : NewEntries) → n.number ≡ number → n.index ≡ i → n.entries ≡ [] → Begins number i n
begins number i n number_is index_is entries_is c numbered lawful = record {
  number = number_is ∙ sym numbered;
  index = ap (λ (j : Definition). j.number) index_is;
  entered = ap (λ (j : Definition). is_ok (record c { documents = []; indexes = j ∷ [] })) (sym index_is);
  indexed = subst (λ (j : Definition). AreIndexed [] (j ∷ [])) (sym index_is) (record {
    rising = λ k j e less below. absurd (omega (arith, below));
    indexes = all_of (IsIndexOf []) (i ∷ []) (λ j there. only j there);
    distinct = λ k j e less below. absurd (omega (arith, less, below));
    few = omega arith;
  });
  entries = subst (λ (es : List Edit). HasPutEntries [] es n.number n.index []) (sym entries_is) ((puts_one_more [] n.number n.index).0);
}
  where
    of_none : IsIndexOf [] i
    of_none = record {
      lawful = lawful;
      keys = λ k j below. absurd (omega (arith, below));
      unique = λ u k j e less below. absurd (omega (arith, below));
      multi = λ k j below. absurd (omega (arith, below));
    }

    only : (j : Definition) → Among j (i ∷ []) → IsIndexOf [] j
    only j (inl is) = subst (IsIndexOf []) (sym is) of_none
    only j (inr none) = absurd none

-- ---- the next document

-- a document behind others, which all may be stored
pub record IsNext (done : List Pairs) (d : Pairs) : Type 0 where
  pub rising : IsRising (done ++ d ∷ [])
  pub storable : All IsStorable (done ++ d ∷ [])

pairs_front : {X : Type 0} (R : X → X → Type 0) (xs ys : List X) → AllPairs R (xs ++ ys) → AllPairs R xs
pairs_front R [] ys h = λ i j x less below. absurd (omega (arith, below))
pairs_front R (x ∷ xs) ys h =
    pairs_of R x xs (λ y there. first_of R x (xs ++ ys) y h (among_front y xs ys there))
    (pairs_front R xs ys (λ i j z less below. h (suc i) (suc j) z (omega (arith, less)) (omega (arith, below))))

all_front : {X : Type 0} (P : X → Type 0) (xs ys : List X) → All P (xs ++ ys) → All P xs
all_front P xs ys h = all_of P xs (λ x there. of_all P (xs ++ ys) x h (among_front x xs ys there))

next_of : (c : Collection) (done rest : List Pairs) (d : Pairs) → IsKept c → c.documents ≡ done ++ d ∷ rest → IsNext done d
next_of c done rest d kept all =
    let split : c.documents ≡ (done ++ d ∷ []) ++ rest = all ∙ sym (append_assoc done (d ∷ []) rest) in
    record {
      rising = pairs_front Below (done ++ d ∷ []) rest (subst IsRising split kept.rising);
      storable = all_front IsStorable (done ++ d ∷ []) rest (subst (All IsStorable) split kept.storable);
    }

module _ (c : Collection) (i : Definition) (done : List Pairs) (n : NewEntries) (d : Pairs) (next : IsNext done d) (has : HasEntries c i done n) where
  abbrev pub so_far : Collection
  so_far = record c { documents = done; indexes = n.index ∷ [] }

  behind : (e : Pairs) → Among e done → Below e d
  behind = before_last d done next.rising

  duplicate_is : is_duplicate so_far (as_new d) ≡ clashes done d n.index
  duplicate_is =
      ap (λ (o : Option Pairs). is_some o || (clashes done d n.index || false)) (not_found d done behind) ∙ or_false (clashes done d n.index)

  entered_by : (r : Result (List (List ℕ)) Refusal) → keys_in n.index.fields d ≡ r
      → entered so_far (as_new d)
      ≡ ((r >>= (λ keys. Ok (keys ∷ []))) >>= (λ keys. unless (clashes done d n.index) refusals.DuplicateKey (Ok (with_document d so_far))))
  entered_by r is =
      ap (λ q. q >>= (λ keys. unless (is_duplicate so_far (as_new d)) refusals.DuplicateKey (Ok (with_document d so_far))))
      (keys_alone n.index d ∙ ap (λ q. q >>= (λ keys. Ok (keys ∷ []))) is)
      ∙ ap (λ (b : Bool). (r >>= (λ keys. Ok (keys ∷ []))) >>= (λ keys. unless b refusals.DuplicateKey (Ok (with_document d so_far)))) duplicate_is

  -- the whole is what comes of the next one
  whole_is : (rest : List Pairs) → c.documents ≡ done ++ d ∷ rest
      → enter_each (alone c i) (map as_new c.documents) ≡ (entered so_far (as_new d) >>= (λ m. enter_each m (map as_new rest)))
  whole_is rest all =
      ap (λ (ds : List Pairs). enter_each (alone c i) (map as_new ds)) all
      ∙ ap (enter_each (alone c i)) (map-append as_new done (d ∷ rest))
      ∙ each_append (map as_new done) (as_new d ∷ map as_new rest) (alone c i)
      ∙ ap (λ (r : Result Collection Refusal). r >>= (λ m. enter_each m (as_new d ∷ map as_new rest))) has.entered

  pub refused_next : (rest : List Pairs) (e : Refusal) → c.documents ≡ done ++ d ∷ rest → entered so_far (as_new d) ≡ Err e → with_index c i ≡ Err e
  refused_next rest e all refused =
      ap (λ (r : Result Collection Refusal). r >>= (λ made. Ok (record c { indexes = c.indexes ++ made.indexes })))
      (whole_is rest all ∙ ap (λ (r : Result Collection Refusal). r >>= (λ m. enter_each m (map as_new rest))) refused)

  -- ---- duplicates

  stored : IsStorable d
  stored = of_all IsStorable (done ++ d ∷ []) d next.storable (among_back d done (d ∷ []) (inl refl))

  before_stored : All IsStorable done
  before_stored = all_front IsStorable done (d ∷ []) next.storable

  module _ (rises : Rises (edit_keys n.entries)) where
    put_told : (key : List ℕ) → is_among (encoded_keys n.index.fields d) key ≡ true
        → puts_another (key_under n.number n.index.number key) (tree_text (key_of d)) n.entries ≡ another_has n.index key (key_of d) done
    put_told key keyed =
        let front = key_under n.number n.index.number key in
        sym (or_false (puts_another front (tree_text (key_of d)) n.entries))
        ∙ sym (after_edits (is_another front (tree_text (key_of d))) n.entries [] rises tt)
        ∙ ap (has_other_key n.number n.index.number key (tree_text (key_of d))) (has.entries [] tt)
        ∙ tells_put n.number n.index done d key [] (λ x rest there is. absurd there) before_stored stored keyed

    keys_told : (keys : List (List ℕ)) → ((key : List ℕ) → Among key keys → Among key (encoded_keys n.index.fields d))
        → puts_any n.number n.index.number (tree_text (key_of d)) keys n.entries ≡ list_any (λ key. another_has n.index key (key_of d) done) keys
    keys_told [] within = refl
    keys_told (key ∷ keys) within =
        let first = put_told key (is_there (encoded_keys n.index.fields d) key (within key (inl refl))) in
        let rest = keys_told keys (λ k there. within k (inr there)) in
        λ t. first t || rest t

    pub taken_is : (id : List ℕ) (keys : List (List ℕ)) → id ≡ tree_text (key_of d) → keys_in n.index.fields d ≡ Ok keys
        → (n.index.is_unique && puts_any n.number n.index.number id keys n.entries) ≡ clashes done d n.index
    taken_is id keys text keyed =
        let known = (known_one n.index.fields d keys keyed).1 in
        ap (λ (b : Bool). n.index.is_unique && b) (
        (λ t. puts_any n.number n.index.number (text t) (sym known t) n.entries)
        ∙ keys_told (encoded_keys n.index.fields d) (λ key there. there)
        ∙ swapped (λ (e : Pairs) (key : List ℕ). is_among (encoded_keys n.index.fields e) key) (is_other d) (encoded_keys n.index.fields d) done
        )

  -- ---- it enters

  module _ (keys : List (List ℕ)) (keyed : keys_in n.index.fields d ≡ Ok keys) (clear : clashes done d n.index ≡ false) where
    abbrev with_it : Collection
    with_it = record c { documents = done ++ d ∷ []; indexes = noted d n.index ∷ [] }

    enters : entered so_far (as_new d) ≡ Ok with_it
    enters =
        entered_by (Ok keys) keyed
        ∙ ap (λ (b : Bool). unless b refusals.DuplicateKey (Ok (with_document d so_far))) clear
        ∙ ap (λ (ds : List Pairs). is_ok (record c { documents = ds; indexes = noted d n.index ∷ [] })) (put_last d done behind)

    pub has_next : (new : NewEntries) → new.number ≡ n.number → new.index ≡ noted d n.index
        → GoesOnBy n.entries (puts (index_entries n.number d n.index)) new.entries → HasEntries c i (done ++ d ∷ []) new
    has_next new number_is index_is continues = record {
      number = number_is ∙ has.number;
      index = ap (λ (j : Definition). j.number) index_is ∙ noted_number d n.index ∙ has.index;
      entered = ap (enter_each (alone c i)) (map-append as_new done (d ∷ []))
          ∙ each_append (map as_new done) (as_new d ∷ []) (alone c i)
          ∙ ap (λ (r : Result Collection Refusal). r >>= (λ m. enter_each m (as_new d ∷ []))) has.entered
          ∙ one_entered so_far (as_new d)
          ∙ enters
          ∙ ap (λ (j : Definition). is_ok (record c { documents = done ++ d ∷ []; indexes = j ∷ [] })) (sym index_is);
      indexed = subst (λ (j : Definition). AreIndexed (done ++ d ∷ []) (j ∷ [])) (sym index_is) (stay_indexed so_far with_it (as_new d) has.indexed enters);
      entries =
          let more = (puts_one_more [] n.number n.index).1 n.entries new.entries done d has.entries continues in
          let with_noted = entries_noted [] new.entries n.number d n.index (done ++ d ∷ []) more in
          subst (λ (j : Definition). HasPutEntries [] new.entries new.number j (done ++ d ∷ [])) (sym index_is)
          (subst (λ (m : ℕ). HasPutEntries [] new.entries m (noted d n.index) (done ++ d ∷ [])) (sym number_is) with_noted);
    }

-- ---- what taking one comes to

pub takes_next : (old new : NewEntries) (d : Pairs) (id : List ℕ) (keys : List (List ℕ)) → Rises (edit_keys old.entries) → id ≡ tree_text (key_of d)
    → keys_in old.index.fields d ≡ Ok keys
    → (old.index.is_unique && puts_any old.number old.index.number id keys old.entries) ≡ false → new.number ≡ old.number → new.index ≡ noted d old.index
    → GoesOnBy old.entries (puts (index_entries old.number d old.index)) new.entries → TakesNext old new d
takes_next old new d id keys rises text keyed clear number_is index_is continues c i done rest kept all has =
    let next = next_of c done rest d kept all in
    has_next c i done old d next has keys keyed (sym (taken_is c i done old d next has rises id keys text keyed) ∙ clear) new number_is index_is continues

pub refuses_keys : (old : NewEntries) (d : Pairs) (e : Refusal) → keys_in old.index.fields d ≡ Err e → RefusesNext old d e
refuses_keys old d e refused c i done rest kept all has =
    let next = next_of c done rest d kept all in
    refused_next c i done old d next has rest e all (entered_by c i done old d next has (Err e) refused)

pub refuses_taken : (old : NewEntries) (d : Pairs) (id : List ℕ) (keys : List (List ℕ)) → Rises (edit_keys old.entries) → id ≡ tree_text (key_of d)
    → keys_in old.index.fields d ≡ Ok keys
    → (old.index.is_unique && puts_any old.number old.index.number id keys old.entries) ≡ true → RefusesNext old d refusals.DuplicateKey
refuses_taken old d id keys rises text keyed taken c i done rest kept all has =
    let next = next_of c done rest d kept all in
    refused_next c i done old d next has rest refusals.DuplicateKey all (
    entered_by c i done old d next has (Ok keys) keyed
    ∙ ap (λ (b : Bool). unless b refusals.DuplicateKey (Ok (with_document d (so_far c i done old d next has))))
    (sym (taken_is c i done old d next has rises id keys text keyed) ∙ taken)
    )

-- ---- the collection with it

-- edits noted behind others that make the entries of nothing else make them behind these
behind_these : (old mid own : List Edit) (m : ℕ) (i : Definition) (ds : List Pairs) → HasPutEntries [] own m i ds → GoesOnBy old own mid
    → HasPutEntries old mid m i ds
behind_these old mid own m i ds entries continues xs h = continues xs h ∙ entries (change old xs) (rises_change old xs h)

pub makes_index_of : (old mid new : List Edit) (name : List ℕ) (number : ℕ) (indexes : List Definition) (n : NewEntries) → length indexes < 16
    → GoesOnBy old n.entries mid
    → GoesOnBy mid (catalogue_put name number (indexes ++ n.index ∷ []) ∷ []) new → MakesIndexOf old new name number indexes n
makes_index_of old mid new name number indexes n few continues catalogue a b c i lead lawful found numbered indexed fresh has = (
  ap (λ (r : Result Collection Refusal). r >>= (λ made. Ok (record c { indexes = c.indexes ++ made.indexes }))) has.entered,
  makes_index_of_all old mid new a b c n.index lead entries put may,
  stays_lawful b c next may,
)
  where
    named : name ≡ c.name
    named = found_name b name c found

    next : Collection
    next = record c { indexes = c.indexes ++ n.index ∷ [] }

    entries : HasPutEntries old mid c.number n.index c.documents
    entries = subst (λ (m : ℕ). HasPutEntries old mid m n.index c.documents) has.number
        (behind_these old mid n.entries n.number n.index c.documents has.entries continues)

    put : GoesOnBy mid (catalogue_put c.name c.number (c.indexes ++ n.index ∷ []) ∷ []) new
    put xs h = catalogue xs h ∙ (λ t. change (catalogue_put (named t) (sym numbered t) (sym indexed t ++ n.index ∷ []) ∷ []) (change mid xs))

    is_index : IsIndexOf c.documents n.index
    is_index = All-head (IsIndexOf c.documents) n.index [] has.indexed.indexes

    kept : IsKept next
    kept = kept_with_index c n.index (kept_of b c lawful (found_in b name c found)) is_index
        (subst (λ (m : ℕ). All (λ j. j.number ≢ m) c.indexes) (sym has.index)
        (subst (λ (js : List Definition). All (λ j. j.number ≢ i.number) js) (sym indexed) fresh))
        (omega (arith, few, ap length indexed))

    may : MayBecome c next b
    may = record { lawful = lawful; found = subst (λ (m : List ℕ). find_collection b m ≡ Some c) named found; named = refl; numbered = refl; kept = kept }

-- ---- the collection without one

pub drops_index_at : (old new : List Edit) (name : List ℕ) (number : ℕ) (indexes : List Definition) (at : ℕ) → at < length indexes
    → GoesOnBy old (catalogue_put name number (remove indexes at) ∷ []) new → DropsIndexAt old new name number indexes at
drops_index_at old new name number indexes at within catalogue first a b c i lead lawful found numbered indexed here removed =
    (drops_index_of_all first old new a b c (take at c.indexes) (drop (suc at) c.indexes) i lead cut entries put may, stays_lawful b c next may)
  where
    named : name ≡ c.name
    named = found_name b name c found

    next : Collection
    next = without_index_at c at

    cut : c.indexes ≡ take at c.indexes ++ i ∷ drop (suc at) c.indexes
    cut = cut_at c.indexes at i (omega (arith, within, ap length indexed)) (here ∙ ap (λ (js : List Definition). get_or js at i) (sym indexed))

    entries : HasRemovedEntries first old c.number i c.documents
    entries = subst (λ (m : ℕ). HasRemovedEntries first old m i c.documents) (sym numbered) removed

    put : GoesOnBy old (catalogue_put c.name c.number (take at c.indexes ++ drop (suc at) c.indexes) ∷ []) new
    put xs h = catalogue xs h ∙ (λ t. change (catalogue_put (named t) (sym numbered t) (remove (sym indexed t) at) ∷ []) (change old xs))

    may : MayBecome c next b
    may = record {
      lawful = lawful;
      found = subst (λ (m : List ℕ). find_collection b m ≡ Some c) named found;
      named = refl;
      numbered = refl;
      kept = kept_without_index c (take at c.indexes) (drop (suc at) c.indexes) i (kept_of b c lawful (found_in b name c found)) cut;
    }
