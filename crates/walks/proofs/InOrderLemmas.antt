-- What an index that is in the order of a sort tells, from one of its entries on.
use Rattle.std.proofs.Common.{◌≡◌, ◌⊎◌, inl, inr, ℕ, Bool, true, false, not, ◌&&◌, ◌||◌, List, [], ◌∷◌, ◌++◌, length, map, take, drop}
use Rattle.std.proofs.Common.{Option, Some, refl, sym, ap, subst, ◌∙◌, arith}
use Rattle.std.specs.Prelude.{All, Contains}
use Rattle.std.specs.Int.{w32, to_be_bytes}
use Rattle.std.specs.List.{AllByRecursion, filter, flat_map, list_any}
use Rattle.std.specs.Option.{option_to_list}
use Rattle.std.specs.Ordering.{is_gt, is_lt, on, ordering_reverse}
use Rattle.std.specs.Cmp.Lexicographic.{nat_list_cmp_total}
use Rattle.std.specs.declared.cmp.Ordering.{Ordering}
use Rattle.std.specs.declared.cmp.Ordering.TheVariants.{Less, Equal, Greater}
use Rattle.std.proofs.lemmas.Cmp.{tied_itself}
use Rattle.std.proofs.lemmas.List.{take-append-drop}
use Rattle.std.proofs.lemmas.List.Elements.{All-filter}
use Rattle.bson.specs.Tree.{Pairs}
use Rattle.value_order.specs.Order.{Key, bytes_cmp, compare}
use Rattle.tree_model.specs.Keys.{key_cmp}
use Rattle.tree_model.proofs.KeyLemmas.{under_trans}
use Rattle.filter.specs.Condition.{Conditions}
use Rattle.filter.specs.Matches.{matches}
use Rattle.projection.specs.Projection.{Projection, project}
use Rattle.sort.specs.Sort.{SortField, compare_by, order}
use Rattle.index.specs.Definition.{Definition}
use Rattle.index.specs.IndexKeys.{index_keys, is_multikey}
use Rattle.index.specs.KeyTexts.{ascending_set, encoded_keys, key_bytes}
use Rattle.index.proofs.OneKeyLaws.{one_key}
use Rattle.entry_model.specs.LawfulState.{IsRising, IsStorable}
use Rattle.entry_model.specs.State.{key_of}
use Rattle.entry_model.specs.StateReads.{find_document}
use Rattle.entry_model.proofs.MemberLemmas.{Among, among_each, among_flat, among_image, among_map, among_of, contains_of, of_all}
use Rattle.entry_model.proofs.DocumentPlaces.{document_some}
use Rattle.collections.proofs.BehindLemmas.{same_front}
use Rattle.planner.specs.AnswerLaws.{IsNotedFor, answer_cmp}
use Rattle.planner.specs.FirstIds.{AreAllOf, AreFirstReadFrom, LeadToFirst}
use Rattle.planner.specs.FoundIds.{ids_of}
use Rattle.planner.specs.KeyRange.{place_by}
use Rattle.planner.specs.KeyScan.{id_text}
use Rattle.planner.specs.KeySpan.{first_key, last_key}
use Rattle.plan_model.specs.Plan.{range_in, sorts_as}
use Rattle.planner.specs.RangeReading.{AreReadFrom, IsEntryText, LiesBetween}
use Rattle.planner.proofs.AnswerLemmas.{sorts_to_answer}
use Rattle.planner.proofs.FirstIdLemmas.{first_ids_lead}
use Rattle.planner.proofs.FoundIdLemmas.{same_document}
use Rattle.planner.proofs.RangeReadingLemmas.{id_behind, range_finds_matching}
use Rattle.planner.proofs.RisingLemmas.{Rises, among_filter, among_sorted, below_each, filter_among, pairs_of, rises_filter, rises_of, sorted_among}
use Rattle.planner.proofs.SortedLemmas.{walks_in_order}
use Rattle.database_model.specs.Find.{matching, window}
use Rattle.walks.specs.InOrder.{AreLed, IsInOrder, is_from_entry, ordered_rest, rest_from_entry}
use Rattle.walks.specs.Listed.{id_text_of}
use Rattle.walks.proofs.FilterLemmas.{all_pass, filter_twice, filter_within}

-- ---- a test of some

or_true : (a b : Bool) → b ≡ true → (a || b) ≡ true
or_true true b e = refl
or_true false b e = e

any_same : {X : Type 0} (p q : X → Bool) → ((x : X) → p x ≡ true → q x ≡ true) → (xs : List X) → list_any p xs ≡ true → list_any q xs ≡ true
any_same p q each [] e = absurd cc
any_same p q each (x ∷ xs) e = by (p x) refl e (any_same p q each xs)
  where
    by : (b : Bool) → p x ≡ b → (b || list_any p xs) ≡ true → (list_any p xs ≡ true → list_any q xs ≡ true) → (q x || list_any q xs) ≡ true
    by true is e later = ap (λ (b : Bool). b || list_any q xs) (each x is)
    by false is e later = or_true (q x) (list_any q xs) (later e)

or_false : (b : Bool) → (b || false) ≡ b
or_false true = refl
or_false false = refl

-- ---- the documents from an entry on

not_true : (b : Bool) → b ≡ false → not b ≡ true
not_true true e = absurd cc
not_true false e = refl

was_false : (b : Bool) → not b ≡ true → b ≡ false
was_false true e = absurd cc
was_false false e = refl

less_is : (o : Ordering) → is_lt o ≡ true → o ≡ Less
less_is Less e = refl
less_is Equal e = absurd cc
less_is Greater e = absurd cc

-- what isn't below a text isn't below one that is below that
from_lower : (i : Definition) (low high : List ℕ) → is_lt (key_cmp high low) ≡ false → (d : Pairs) → is_from_entry i high d ≡ true
    → is_from_entry i low d ≡ true
from_lower i low high up d e = by (list_any (λ key. is_lt (key_cmp (key ++ id_text_of d) low)) (encoded_keys i.fields d)) refl
  where
    under : (text : List ℕ) → is_lt (key_cmp text low) ≡ true → is_lt (key_cmp text high) ≡ true
    under text is = at (key_cmp high low) refl up
      where
        less : key_cmp text low ≡ Less
        less = less_is (key_cmp text low) is

        at : (o : Ordering) → key_cmp high low ≡ o → is_lt o ≡ false → is_lt (key_cmp text high) ≡ true
        at Less f g = absurd cc
        at Equal f g =
            ap is_lt (nat_list_cmp_total.antisymm text high
            ∙ ap ordering_reverse (nat_list_cmp_total.congr high low text f ∙ nat_list_cmp_total.antisymm low text ∙ ap ordering_reverse less))
        at Greater f g = ap is_lt (under_trans text low high less (nat_list_cmp_total.antisymm low high ∙ ap ordering_reverse f))

    by : (b : Bool) → list_any (λ key. is_lt (key_cmp (key ++ id_text_of d) low)) (encoded_keys i.fields d) ≡ b → not b ≡ true
    by false is = refl
    by true is =
        absurd (let f : true ≡ false =
        sym (any_same (λ key. is_lt (key_cmp (key ++ id_text_of d) low)) (λ key. is_lt (key_cmp (key ++ id_text_of d) high))
        (λ key. under (key ++ id_text_of d)) (encoded_keys i.fields d) is)
        ∙ was_false (list_any (λ key. is_lt (key_cmp (key ++ id_text_of d) high)) (encoded_keys i.fields d)) e in cc)

pub entry_twice : (i : Definition) (low high : List ℕ) → is_lt (key_cmp high low) ≡ false → (ds : List Pairs)
    → rest_from_entry i high (rest_from_entry i low ds) ≡ rest_from_entry i high ds
entry_twice i low high up ds =
    filter_within (is_from_entry i high) (is_from_entry i low) ds (λ d there. from_lower i low high up d)

-- ---- the order of a sort, and a test

pub order_filter : (sort : List SortField) (p : Pairs → Bool) (ds : List Pairs) → IsRising ds → order sort (filter p ds) ≡ filter p (order sort ds)
order_filter sort p ds rising =
    sym ((sorts_to_answer sort (filter p ds)
    (pairs_of (on key_of compare) (filter p ds) (rises_filter p (on key_of compare) ds (rises_of (on key_of compare) ds rising)))).1
    (filter p (order sort ds))
    (pairs_of (answer_cmp sort) (filter p (order sort ds))
    (rises_filter p (answer_cmp sort) (order sort ds) (rises_of (answer_cmp sort) (order sort ds) (sorts_to_answer sort ds rising).0)))
    (record {
      to = λ d h.
          let g = filter_among p d (order sort ds) (among_of (filter p (order sort ds)) d h) in
          contains_of (filter p ds) d (among_filter p d ds (among_sorted (compare_by sort) d ds g.0) g.1);
      from = λ d h.
          let g = filter_among p d ds (among_of (filter p ds) d h) in
          contains_of (filter p (order sort ds)) d (among_filter p d (order sort ds) (sorted_among (compare_by sort) d ds g.0) g.1);
    }))

-- from one of them on
from_one : (p : Pairs → Bool) (front behind : List Pairs) (d : Pairs) → ((x : Pairs) → Among x front → p x ≡ false) → p d ≡ true
    → ((x : Pairs) → Among x behind → p x ≡ true) → filter p (front ++ d ∷ behind) ≡ d ∷ behind
from_one p [] behind d before here after = rw here (ap (λ (xs : List Pairs). d ∷ xs) (all_pass p behind after))
from_one p (x ∷ front) behind d before here after =
    rw (before x (inl refl)) (from_one p front behind d (λ y g. before y (inr g)) here after)

-- ---- documents with one entry each

-- its keys in the index are one list
pub record HasEntry (i : Definition) (d : Pairs) : Type 0 where
  pub keys : List Key
  pub only : index_keys i.fields d ≡ keys ∷ []

abbrev pub entry_text : (i : Definition) (d : Pairs) → HasEntry i d → List ℕ
entry_text i d h = key_bytes i.fields h.keys ++ id_text_of d

encoded_one : (i : Definition) (d : Pairs) (h : HasEntry i d) → encoded_keys i.fields d ≡ key_bytes i.fields h.keys ∷ []
encoded_one i d h = ap (λ (all : List (List Key)). ascending_set (map (key_bytes i.fields) all)) h.only

own_entry : (i : Definition) (from : List ℕ) (d : Pairs) (h : HasEntry i d) → is_from_entry i from d ≡ not (is_lt (key_cmp (entry_text i d h) from))
own_entry i from d h =
    ap (λ (keys : List (List ℕ)). not (list_any (λ key. is_lt (key_cmp (key ++ id_text_of d) from)) keys)) (encoded_one i d h)
    ∙ ap not (or_false (is_lt (key_cmp (entry_text i d h) from)))

own_key : (i : Definition) (d : Pairs) (h : HasEntry i d) (key : List ℕ) → Among key (encoded_keys i.fields d) → key ≡ key_bytes i.fields h.keys
own_key i d h key there = only (subst (λ (keys : List (List ℕ)). Among key keys) (encoded_one i d h) there)
  where
    only : Among key (key_bytes i.fields h.keys ∷ []) → key ≡ key_bytes i.fields h.keys
    only (inl e) = e
    only (inr g) = absurd g

not_multi : (a b : Bool) → (not a && b) ≡ true → a ≡ false
not_multi true b e = absurd cc
not_multi false b e = refl

-- ---- documents by their entries

-- the texts of their `_id`s, by the texts of entries
pub ids_told : (i : Definition) (texts : List (List ℕ)) (es : List Pairs)
    → map (λ text. id_text i.fields text) texts ≡ map (λ d. Some (id_text_of d)) es → ids_of i.fields texts ≡ map id_text_of es
ids_told i [] [] e = refl
ids_told i [] (d ∷ es) e = absurd cc
ids_told i (text ∷ texts) [] e = absurd cc
ids_told i (text ∷ texts) (d ∷ es) e =
    let first : id_text i.fields text ≡ Some (id_text_of d) = cc in
    let rest : map (λ text. id_text i.fields text) texts ≡ map (λ d. Some (id_text_of d)) es = cc in
    ap (λ (o : Option (List ℕ)). option_to_list o ++ ids_of i.fields texts) first
    ∙ ap (λ (ids : List (List ℕ)). id_text_of d ∷ ids) (ids_told i texts es rest)

module _ (ds : List Pairs) (storable : All IsStorable ds) (rising : IsRising ds) where
  -- they are told by the texts of their `_id`s
  pub same_documents : (xs ys : List Pairs) → ((x : Pairs) → Among x xs → Among x ds) → ((y : Pairs) → Among y ys → Among y ds)
      → map id_text_of xs ≡ map id_text_of ys → xs ≡ ys
  same_documents [] [] hx hy e = refl
  same_documents [] (y ∷ ys) hx hy e = absurd cc
  same_documents (x ∷ xs) [] hx hy e = absurd cc
  same_documents (x ∷ xs) (y ∷ ys) hx hy e =
      let first : id_text_of x ≡ id_text_of y = cc in
      let rest : map id_text_of xs ≡ map id_text_of ys = cc in
      let one : x ≡ y = same_document ds x y storable rising (hx x (inl refl)) (hy y (inl refl)) first in
      let later : xs ≡ ys = same_documents xs ys (λ z g. hx z (inr g)) (λ z g. hy z (inr g)) rest in
      λ k. one k ∷ later k

found_there : (ds es : List Pairs) → All (λ d. find_document ds (key_of d) ≡ Some d) es → (d : Pairs) → Among d es → Among d ds
found_there ds es h d g = (document_some ds (key_of d) d (of_all (λ e. find_document ds (key_of e) ≡ Some e) es d h g)).0

found_too : (ds es : List Pairs) → AllByRecursion (λ d. find_document ds (key_of d) ≡ Some d) es → (d : Pairs) → Among d es → Among d ds
found_too ds [] h d g = absurd g
found_too ds (e ∷ es) h d (inl same) = subst (λ (x : Pairs). Among x ds) (sym same) (document_some ds (key_of e) e h.0).0
found_too ds (e ∷ es) h d (inr g) = found_too ds es h.1 d g

-- ---- an index in the order of a sort

module _ (rs : Conditions) (sort : List SortField) (i : Definition) (last : List ℕ) (is : IsInOrder rs sort i last) (ds : List Pairs)
    (noted : IsNotedFor (Some i) ds) (storable : All IsStorable ds) (rising : IsRising ds) where
  pub has_entry : (d : Pairs) → Among d ds → HasEntry i d
  has_entry d there = by (index_keys i.fields d) refl (one_key i.fields d single)
    where
      single : is_multikey i.fields d ≡ false
      single = of_test (is_multikey i.fields d) (of_all (λ x. is_multikey i.fields x ≡ true → i.is_multi ≡ true) ds d noted there)
        where
          of_test : (b : Bool) → (b ≡ true → i.is_multi ≡ true) → b ≡ false
          of_test true tells = absurd (let f : true ≡ false = sym (tells refl) ∙ not_multi i.is_multi (sorts_as sort i.fields) is.sorted in cc)
          of_test false tells = refl

      by : (all : List (List Key)) → index_keys i.fields d ≡ all → length all ≡ 1 → HasEntry i d
      by [] e n = absurd cc
      by (keys ∷ []) e n = record { keys = keys; only = e }
      by (keys ∷ more ∷ all) e n = absurd (omega (arith, n))

  -- entries stand as their documents in the order
  pub entries_order : (d e : Pairs) (gd : Among d ds) (ge : Among e ds)
      → key_cmp (entry_text i d (has_entry d gd)) (entry_text i e (has_entry e ge)) ≡ answer_cmp sort d e
  entries_order d e gd ge =
      let a = entry_text i d (has_entry d gd) in
      let b = entry_text i e (has_entry e ge) in
      let kd = has_entry d gd in
      let ke = has_entry e ge in
      sym (same_front (to_be_bytes w32 i.number) a b)
      ∙ sym (same_front (to_be_bytes w32 0) (to_be_bytes w32 i.number ++ a) (to_be_bytes w32 i.number ++ b))
      ∙ walks_in_order rs sort i ds d e kd.keys ke.keys 0 is.sorted noted storable (contains_of ds d gd) (contains_of ds e ge)
      (contains_of (index_keys i.fields d) kd.keys (subst (λ (all : List (List Key)). Among kd.keys all) (sym kd.only) (inl refl)))
      (contains_of (index_keys i.fields e) ke.keys (subst (λ (all : List (List Key)). Among ke.keys all) (sym ke.only) (inl refl)))

  -- the text of an entry of one of them
  text_is : (d : Pairs) (there : Among d ds) (key text : List ℕ) → Contains (encoded_keys i.fields d) key → text ≡ key ++ id_text_of d
      → text ≡ entry_text i d (has_entry d there)
  text_is d there key text h e =
      e ∙ ap (λ (k : List ℕ). k ++ id_text_of d) (own_key i d (has_entry d there) key (among_of (encoded_keys i.fields d) key h))

  -- all that match from an entry on, in the order
  abbrev pub all_from : List ℕ → List Pairs
  all_from from = order sort (matching rs (rest_from_entry i from ds))

  rest_rising : (from : List ℕ) → IsRising (rest_from_entry i from ds)
  rest_rising from =
      pairs_of (on key_of compare) (rest_from_entry i from ds)
      (rises_filter (is_from_entry i from) (on key_of compare) ds (rises_of (on key_of compare) ds rising))

  found_rising : (from : List ℕ) → IsRising (matching rs (rest_from_entry i from ds))
  found_rising from =
      pairs_of (on key_of compare) (matching rs (rest_from_entry i from ds))
      (rises_filter (matches rs) (on key_of compare) (rest_from_entry i from ds)
      (rises_of (on key_of compare) (rest_from_entry i from ds) (rest_rising from)))

  -- each of them is one of the documents, and isn't below the entry
  all_there : (from : List ℕ) (d : Pairs) → Among d (all_from from) → Among d ds × (is_from_entry i from d ≡ true)
  all_there from d g =
      let h = filter_among (matches rs) d (rest_from_entry i from ds) (among_sorted (compare_by sort) d (matching rs (rest_from_entry i from ds)) g) in
      filter_among (is_from_entry i from) d ds h.0

  pub all_in : (from : List ℕ) (d : Pairs) → Among d (all_from from) → Among d ds
  all_in from d g = (all_there from d g).0

  -- From the entry of one of them on there are it and those behind it.
  pub left_in_order : (from text : List ℕ) (front behind : List Pairs) (d : Pairs) → all_from from ≡ front ++ d ∷ behind
      → (there : Among d ds) → text ≡ entry_text i d (has_entry d there) → all_from text ≡ d ∷ behind
  left_in_order from text front behind d split there text_of =
      let up_from : is_lt (key_cmp text from) ≡ false =
      was_false (is_lt (key_cmp text from)) (ap (λ (t : List ℕ). not (is_lt (key_cmp t from))) text_of ∙ sym (own_entry i from d (has_entry d there))
      ∙ (all_there from d (subst (λ (xs : List Pairs). Among d xs) (sym split) (among_middle front))).1) in
      ap (λ (xs : List Pairs). order sort (matching rs xs)) (sym (entry_twice i from text up_from ds))
      ∙ ap (order sort) (filter_twice (matches rs) (is_from_entry i text) (rest_from_entry i from ds))
      ∙ order_filter sort (is_from_entry i text) (matching rs (rest_from_entry i from ds)) (found_rising from)
      ∙ ap (filter (is_from_entry i text)) split
      ∙ from_one (is_from_entry i text) front behind d before here after
    where
      up : Rises (answer_cmp sort) (front ++ d ∷ behind)
      up = subst (Rises (answer_cmp sort)) split
          (rises_of (answer_cmp sort) (all_from from) (sorts_to_answer sort (matching rs (rest_from_entry i from ds)) (found_rising from)).0)

      among_middle : (xs : List Pairs) → Among d (xs ++ d ∷ behind)
      among_middle [] = inl refl
      among_middle (x ∷ xs) = inr (among_middle xs)

      among_back : (xs : List Pairs) (y : Pairs) → Among y behind → Among y (xs ++ d ∷ behind)
      among_back [] y g = inr g
      among_back (x ∷ xs) y g = inr (among_back xs y g)

      among_start : (xs : List Pairs) (y : Pairs) → Among y xs → Among y (xs ++ d ∷ behind)
      among_start (x ∷ xs) y (inl e) = inl e
      among_start (x ∷ xs) y (inr g) = inr (among_start xs y g)
      among_start [] y g = absurd g

      -- where it stands
      place : (y : Pairs) → Among y (front ++ d ∷ behind) → Among y ds
      place y g = (all_there from y (subst (λ (xs : List Pairs). Among y xs) (sym split) g)).0

      rises_behind : (xs : List Pairs) → Rises (answer_cmp sort) (xs ++ d ∷ behind) → Rises (answer_cmp sort) (d ∷ behind)
      rises_behind [] h = h
      rises_behind (x ∷ xs) h = rises_behind xs h.1

      below_middle : (xs : List Pairs) → Rises (answer_cmp sort) (xs ++ d ∷ behind) → (y : Pairs) → Among y xs → answer_cmp sort y d ≡ Less
      below_middle [] h y g = absurd g
      below_middle (x ∷ xs) h y (inl e) = ap (λ (z : Pairs). answer_cmp sort z d) e ∙ below_each (answer_cmp sort) x d (xs ++ d ∷ behind) h.0 (among_middle xs)
      below_middle (x ∷ xs) h y (inr g) = below_middle xs h.1 y g

      by_order : (y : Pairs) (gy : Among y ds) → is_from_entry i text y ≡ not (is_lt (key_cmp (entry_text i y (has_entry y gy)) text))
      by_order y gy = own_entry i text y (has_entry y gy)

      before : (y : Pairs) → Among y front → is_from_entry i text y ≡ false
      before y g =
          let gy = place y (among_start front y g) in
          by_order y gy ∙ ap (λ (t : List ℕ). not (is_lt (key_cmp (entry_text i y (has_entry y gy)) t))) text_of
          ∙ ap (λ (o : Ordering). not (is_lt o)) (entries_order y d gy there ∙ below_middle front up y g)

      here : is_from_entry i text d ≡ true
      here =
          by_order d there ∙ ap (λ (t : List ℕ). not (is_lt (key_cmp (entry_text i d (has_entry d there)) t))) text_of
          ∙ ap (λ (o : Ordering). not (is_lt o)) (tied_itself nat_list_cmp_total (entry_text i d (has_entry d there)))

      after : (y : Pairs) → Among y behind → is_from_entry i text y ≡ true
      after y g =
          let gy = place y (among_back front y g) in
          let less : answer_cmp sort d y ≡ Less = below_each (answer_cmp sort) d y behind (rises_behind front up).0 g in
          by_order y gy ∙ ap (λ (t : List ℕ). not (is_lt (key_cmp (entry_text i y (has_entry y gy)) t))) text_of
          ∙ ap (λ (o : Ordering). not (is_lt o)) (nat_list_cmp_total.antisymm (entry_text i y (has_entry y gy)) (entry_text i d (has_entry d there))
          ∙ ap ordering_reverse (entries_order d y there gy ∙ less))

  -- ---- what was read from an entry on

  module _ (from : List ℕ) where
    abbrev rest : List Pairs
    rest = rest_from_entry i from ds

    abbrev IsFrom : List ℕ → Type 0
    IsFrom text = IsEntryText ds i text × (is_lt (key_cmp text from) ≡ false)

    to_rest : (text : List ℕ) → IsFrom text → IsEntryText rest i text
    to_rest text h =
        let d = h.0.0 in
        let there : Among d ds = among_of ds d h.0.2 in
        let same = text_is d there h.0.1 text h.0.3 h.0.4 in (
          d,
          h.0.1,
          contains_of rest d (among_filter (is_from_entry i from) d ds there
              (own_entry i from d (has_entry d there) ∙ ap (λ (t : List ℕ). not (is_lt (key_cmp t from))) (sym same)
              ∙ not_true (is_lt (key_cmp text from)) h.1)),
          h.0.3,
          h.0.4,
        )

    of_rest : (text : List ℕ) → IsEntryText rest i text → IsFrom text
    of_rest text h =
        let d = h.0 in
        let g = filter_among (is_from_entry i from) d ds (among_of rest d h.2) in
        let same = text_is d g.0 h.1 text h.3 h.4 in (
          (d, h.1, contains_of ds d g.0, h.3, h.4),
          was_false (is_lt (key_cmp text from))
              (ap (λ (t : List ℕ). not (is_lt (key_cmp t from))) same ∙ sym (own_entry i from d (has_entry d g.0)) ∙ g.1),
        )

    abbrev AreAll : List (List ℕ) → Type 0
    AreAll texts = (text : List ℕ) → IsFrom text → LiesBetween from last text → Contains texts text

    module _ (texts : List (List ℕ)) (documents : List Pairs) (up : Rises bytes_cmp texts) (given : (text : List ℕ) → Contains texts text → IsFrom text)
        (above : (text other : List ℕ) → IsFrom text → LiesBetween from last text → Contains texts other → Contains texts text ⊎ (key_cmp other text ≡ Less))
        (led : AreLed i ds texts documents) where
      lies : (text : List ℕ) → IsFrom text → LiesBetween (first_key i.fields (range_in rs sort (Some i))) (last_key i.fields (range_in rs sort (Some i))) text
          → LiesBetween from last text
      lies text h l = (h.1, subst (λ (t : List ℕ). is_gt (place_by t text) ≡ false) (sym is.ends) l.1)

      read : AreFirstReadFrom i (range_in rs sort (Some i)) rest texts
      read = record {
        rise = pairs_of bytes_cmp texts up;
        given = λ text h. to_rest text (given text h);
        above = λ text other h l g. let f = of_rest text h in above text other f (lies text f l) g;
      }

      lead : LeadToFirst rs sort rest (AreAllOf i (range_in rs sort (Some i)) rest texts) (ids_of i.fields texts)
      lead =
          first_ids_lead rs sort i rest texts is.sorted (All-filter (is_from_entry i from) (λ d. is_multikey i.fields d ≡ true → i.is_multi ≡ true) ds noted)
          is.spellable (All-filter (is_from_entry i from) IsStorable ds storable) (rest_rising from) read

      same_lead : lead.documents ≡ documents
      same_lead =
          same_documents ds storable rising lead.documents documents
          (λ d g. (filter_among (is_from_entry i from) d ds (found_too rest lead.documents lead.found d g)).0)
          (found_there ds documents led.found) (sym lead.spelled ∙ ids_told i texts documents led.told)

      -- Those that match of the documents are the first ones.
      pub first_in_order : all_from from ≡ matching rs documents ++ drop (length (matching rs documents)) (all_from from)
      first_in_order =
          let few = matching rs documents in
          let first : few ≡ take (length few) (all_from from) =
          subst (λ (es : List Pairs). matching rs es ≡ take (length (matching rs es)) (all_from from)) same_lead lead.first in
          sym (take-append-drop (length few) (all_from from)) ∙ ap (λ (xs : List Pairs). xs ++ drop (length few) (all_from from)) (sym first)

      -- and all of them, where all entries were read
      pub whole_in_order : AreAll texts → matching rs documents ≡ all_from from
      whole_in_order all =
          subst (λ (es : List Pairs). matching rs es ≡ all_from from) same_lead
          (lead.whole (λ text h l. let f = of_rest text h in all text f (lies text f l)))

      -- the document of one of the entries
      pub entry_of : (text : List ℕ) (d : Pairs) → Contains texts text → Among d documents → id_text i.fields text ≡ Some (id_text_of d)
          → (there : Among d ds) × (text ≡ entry_text i d (has_entry d there))
      entry_of text d h g told =
          let f = given text h in
          let e = f.0.0 in
          let there : Among e ds = among_of ds e f.0.2 in
          let own : id_text i.fields text ≡ Some (id_text_of e) =
          id_behind i.fields e f.0.1 text (of_all IsStorable ds e storable there) (among_of (encoded_keys i.fields e) f.0.1 f.0.3) f.0.4 in
          let same_id : id_text_of e ≡ id_text_of d = unsome (sym own ∙ told) in
          let same : e ≡ d = same_document ds e d storable rising there (found_there ds documents led.found d g) same_id in
          (by_same e d same there (text_is e there f.0.1 text f.0.3 f.0.4))
        where
          unsome : {a b : List ℕ} → Some a ≡ Some b → a ≡ b
          unsome e = cc

          by_same : (e d : Pairs) → e ≡ d → (there : Among e ds) → text ≡ entry_text i e (has_entry e there)
              → (there : Among d ds) × (text ≡ entry_text i d (has_entry d there))
          by_same e d same there is = subst (λ (x : Pairs). (g : Among x ds) × (text ≡ entry_text i x (has_entry x g))) same (there, is)

  -- ---- from the beginning

  abbrev entry_texts : List Pairs → List (List ℕ)
  entry_texts es = flat_map (λ (d : Pairs). map (λ (key : List ℕ). key ++ id_text_of d) (encoded_keys i.fields d)) es

  module _ (first : List ℕ) (begins : first ≡ first_key i.fields (range_in rs sort (Some i))) where
    abbrev not_below : List ℕ → Bool
    not_below text = not (is_lt (key_cmp text first))

    abbrev texts_there : List (List ℕ)
    texts_there = filter not_below (entry_texts ds)

    -- one of them is of a document
    of_text : (text : List ℕ) → Among text texts_there → IsEntryText ds i text × (is_lt (key_cmp text first) ≡ false)
    of_text text g =
        let f = filter_among not_below text (entry_texts ds) g in
        let d = among_flat (λ (e : Pairs). map (λ (key : List ℕ). key ++ id_text_of e) (encoded_keys i.fields e)) text ds f.0 in
        let k = among_map (λ (key : List ℕ). key ++ id_text_of d.0) text (encoded_keys i.fields d.0) d.2 in
        ((d.0, k.0, contains_of ds d.0 d.1, contains_of (encoded_keys i.fields d.0) k.0 k.1, k.2), was_false (is_lt (key_cmp text first)) f.1)

    to_text : (text : List ℕ) → IsEntryText ds i text → is_lt (key_cmp text first) ≡ false → Among text texts_there
    to_text text h up =
        among_filter not_below text (entry_texts ds)
        (among_each (λ (e : Pairs). map (λ (key : List ℕ). key ++ id_text_of e) (encoded_keys i.fields e)) text h.0 ds (among_of ds h.0 h.2)
        (subst (λ (t : List ℕ). Among t (map (λ (key : List ℕ). key ++ id_text_of h.0) (encoded_keys i.fields h.0))) (sym h.4)
        (among_image (λ (key : List ℕ). key ++ id_text_of h.0) h.1 (encoded_keys i.fields h.0) (among_of (encoded_keys i.fields h.0) h.1 h.3))))
        (not_true (is_lt (key_cmp text first)) up)

    read_there : AreReadFrom i (range_in rs sort (Some i)) ds texts_there
    read_there = record {
      given = λ text h. (of_text text (among_of texts_there text h)).0;
      all = λ text h lies. contains_of texts_there text (to_text text h (ap (λ (t : List ℕ). is_lt (key_cmp text t)) begins ∙ lies.0));
    }

    -- no document that the filter matches has an entry below it
    from_begin : (d : Pairs) → Among d ds → matches rs d ≡ true → is_from_entry i first d ≡ true
    from_begin d there m =
        let leads = (range_finds_matching rs sort i ds texts_there noted is.spellable storable read_there).1 d (contains_of ds d there) m in
        let f = of_text leads.0 (among_of texts_there leads.0 leads.1) in
        let e = f.0.0 in
        let ge : Among e ds = among_of ds e f.0.2 in
        let own : id_text i.fields leads.0 ≡ Some (id_text_of e) =
        id_behind i.fields e f.0.1 leads.0 (of_all IsStorable ds e storable ge) (among_of (encoded_keys i.fields e) f.0.1 f.0.3) f.0.4 in
        let same : e ≡ d = same_document ds e d storable rising ge there (unsome (sym own ∙ leads.2)) in
        subst (λ (x : Pairs). is_from_entry i first x ≡ true) same
        (own_entry i first e (has_entry e ge)
        ∙ ap (λ (t : List ℕ). not (is_lt (key_cmp t first))) (sym (text_is e ge f.0.1 leads.0 f.0.3 f.0.4))
        ∙ not_true (is_lt (key_cmp leads.0 first)) f.1)
      where
        unsome : {a b : List ℕ} → Some a ≡ Some b → a ≡ b
        unsome e = cc

    -- From the first text of the range on, what comes is what a query gives.
    pub whole_order : (p : Projection) (skip limit : ℕ) → ordered_rest rs sort p skip limit i first ds
        ≡ map (project p) (window skip limit (order sort (matching rs ds)))
    whole_order p skip limit =
        ap (λ (xs : List Pairs). map (project p) (window skip limit (order sort xs)))
        (filter_twice (matches rs) (is_from_entry i first) ds
        ∙ all_pass (is_from_entry i first) (matching rs ds) (λ d g. let f = filter_among (matches rs) d ds g in from_begin d f.0 f.1))
