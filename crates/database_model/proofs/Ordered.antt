-- Lists in rising order by a key: what a search answers, and what an insert and a removal keep.
use Rattle.std.proofs.Common.{◌≡◌, ℕ, zero, suc, ◌+◌, ◌-◌, ◌<◌, ◌≤◌, inl, inr, Bool, false, true, List, [], ◌∷◌, length, get_or, set, insert, remove, take}
use Rattle.std.proofs.Common.{drop, Some, None, Result, Ok, Err, refl, sym, ap, subst, ◌∙◌, arith}
use Rattle.std.specs.Prelude.{option_map, if◌then◌else◌}
use Rattle.std.specs.Str.{bytes_eq}
use Rattle.std.specs.Cmp.{IsTotalOrder}
use Rattle.std.specs.Cmp.Lexicographic.{slice_cmp}
use Rattle.std.specs.List.{All, AllPairs}
use Rattle.std.specs.List.Sorted.{IsNonDecreasingBy, IsPartitionPoint, IsBinarySearchResult, IsSearchInRange}
use Rattle.std.specs.Ordering.{nat_cmp, is_lt, is_eq, ordering_index, ordering_reverse}
use Rattle.std.specs.declared.cmp.Ordering.{Ordering}
use Rattle.std.specs.declared.cmp.Ordering.TheVariants as orders
use Rattle.std.proofs.lemmas.Bool.{cases_lt}
use Rattle.std.proofs.lemmas.Cmp.{nat_list_cmp_total, alike_right}
use Rattle.std.proofs.lemmas.List.Elements.{All-append, All-cons, All-take, All-drop}
use Rattle.std.proofs.lemmas.List.Edits.{length-insert, get_or-insert_below, get_or-insert_at, get_or-insert_above}
use Rattle.std.proofs.lemmas.List.Sorted.{searchable_from_sorted}
use Rattle.std.proofs.lemmas.Map.Lookups.{exact_bytes}
use Rattle.std.proofs.lemmas.Map.Text.{is_eq-slice_cmp}
use Rattle.bson.specs.Tree.{Tree, Pairs}
use Rattle.value_order.specs.Order.{compare}
use Rattle.value_order.specs.TotalLaws.{compare_total}
use Rattle.entry_model.specs.State.{Collection, by_order, find_collection, put_collection, without_collection}
use Rattle.database_model.specs.Documents.{key_of, place}
use Rattle.database_model.specs.Places.{IsGap, IsPlace, by_key, by_name, no_collection, IsNamedAt}

abbrev pub Rises : {X K : Type 0} → (K → K → Ordering) → (X → K) → List X → Type 0
Rises R key xs = AllPairs (λ x y. R (key x) (key y) ≡ orders.Less) xs

pub flipped : {K : Type 0} {R : K → K → Ordering} (o : IsTotalOrder R) (x y : K) (r : Ordering) → R x y ≡ r → R y x ≡ ordering_reverse r
flipped o x y r e = o.antisymm y x ∙ ap ordering_reverse e

-- ---- a search

pub gap_found : {X K : Type 0} {R : K → K → Ordering} (o : IsTotalOrder R) (key : X → K) (xs : List X) (x : K) (i : ℕ) → Rises R key xs → i ≤ length xs
    → (IsNonDecreasingBy (λ y. ordering_index (R (key y) x)) xs → IsPartitionPoint (λ y. R (key y) x ≡ orders.Less) (λ y. R (key y) x ≡ orders.Greater) xs i)
    → IsGap (λ y. R (key y) x) xs i
gap_found {R = R} o key xs x i up within found =
    let parts = found (searchable_from_sorted o key xs x (λ k d low high. ap is_lt (flipped o _ _ orders.Less (up k (k + 1) d (omega arith) high)))) in
    record { within = within; before = parts.0; after = parts.1 }

-- ---- edits

module _ {X K : Type 0} {R : K → K → Ordering} (o : IsTotalOrder R) (key : X → K) (xs : List X) (i : ℕ) (new : X) (up : Rises R key xs)
    (gap : IsGap (λ y. R (key y) (key new)) xs i) where
  abbrev Less_at : ℕ → ℕ → X → Type 0
  Less_at a b d = R (key (get_or (insert xs i new) a d)) (key (get_or (insert xs i new) b d)) ≡ orders.Less

  both_before : (a b : ℕ) (d : X) → a < b → b < i → Less_at a b d
  both_before a b d lt before =
      let first = get_or-insert_below xs i new d a (omega arith) gap.within in
      let second = get_or-insert_below xs i new d b before gap.within in
      rw (first, second) (up a b d lt (omega (arith, gap.within)))

  before_new : (a : ℕ) (d : X) → a < i → Less_at a i d
  before_new a d lt =
      let first = get_or-insert_below xs i new d a lt gap.within in
      let second = get_or-insert_at xs i new d gap.within in
      rw (first, second) (gap.before a d (omega arith) lt)

  across : (a k : ℕ) (d : X) → a < i → i ≤ k → k < length xs → Less_at a (k + 1) d
  across a k d lt from within =
      let first = get_or-insert_below xs i new d a lt gap.within in
      let second = get_or-insert_above xs i new d k from gap.within in
      rw (first, second) (up a k d (omega arith) within)

  after_new : (k : ℕ) (d : X) → i ≤ k → k < length xs → Less_at i (k + 1) d
  after_new k d from within =
      let first = get_or-insert_at xs i new d gap.within in
      let second = get_or-insert_above xs i new d k from gap.within in
      rw (first, second) (flipped o _ _ orders.Greater (gap.after k d from within))

  both_after : (j k : ℕ) (d : X) → i ≤ j → j < k → k < length xs → Less_at (j + 1) (k + 1) d
  both_after j k d from lt within =
      let first = get_or-insert_above xs i new d j from gap.within in
      let second = get_or-insert_above xs i new d k (omega arith) gap.within in
      rw (first, second) (up j k d lt within)

  abbrev At : ℕ → ℕ → X → Type 0
  At a b d = Less_at a b d

  pub rises_insert : Rises R key (insert xs i new)
  rises_insert a b d lt below =
      let long : b < length xs + 1 = omega (arith, length-insert xs i new gap.within) in
      elim (cases_lt b i) [
        | inl b_before ↦ both_before a b d lt b_before
        | inr b_from ↦ elim (cases_lt i b) [
          | inr b_at ↦ let e : b ≡ i = omega arith in subst (λ (n : ℕ). At a n d) (sym e) (before_new a d (omega arith))
          | inl b_after ↦
              let e : b ≡ (b - 1) + 1 = omega arith in
              elim (cases_lt a i) [
                | inl a_before ↦ subst (λ (n : ℕ). At a n d) (sym e) (across a (b - 1) d a_before (omega arith) (omega arith))
                | inr a_from ↦ elim (cases_lt i a) [
                  | inr a_at ↦ let f : a ≡ i = omega arith in
                      subst (λ (n : ℕ). At n b d) (sym f) (subst (λ (n : ℕ). At i n d) (sym e) (after_new (b - 1) d (omega arith) (omega arith)))
                  | inl a_after ↦ let f : a ≡ (a - 1) + 1 = omega arith in
                      subst (λ (n : ℕ). At n b d) (sym f)
                      (subst (λ (n : ℕ). At (a - 1 + 1) n d) (sym e) (both_after (a - 1) (b - 1) d (omega arith) (omega arith) (omega arith)))
                ]
              ]
        ]
      ]

pub All-inserted : {X : Type 0} (P : X → Type 0) (xs : List X) (i : ℕ) (new : X) → i ≤ length xs → All P xs → P new → All P (insert xs i new)
All-inserted P xs i new within all here =
    All-append P (take i xs) (new ∷ drop i xs) (All-take P i xs all) (All-cons P new (drop i xs) here (All-drop P i xs all))

-- ---- a document's place

IsGap-tail : {X : Type 0} (f : X → Ordering) (x : X) (xs : List X) (i : ℕ) → IsGap f (x ∷ xs) (suc i) → IsGap f xs i
IsGap-tail f x xs i gap = record {
  within = omega (arith, gap.within);
  before = λ k d low high. gap.before (suc k) d (omega arith) (omega arith);
  after = λ k d low high. gap.after (suc k) d (omega arith) (omega arith);
}

IsGap-tail_first : {X : Type 0} (f : X → Ordering) (x : X) (xs : List X) → IsGap f (x ∷ xs) 0 → IsGap f xs 0
IsGap-tail_first f x xs gap = record {
  within = omega arith;
  before = λ k d low high. absurd (omega arith);
  after = λ k d low high. gap.after (suc k) d (omega arith) (omega arith);
}

pub place_gap : (ds : List Pairs) (i : ℕ) (id : Tree) (new : Pairs) → IsGap (by_key id) ds i → place id new ds ≡ Some (insert ds i new)
place_gap [] zero id new gap = refl
place_gap [] (suc i) id new gap = absurd (omega (arith, gap.within))
place_gap (d ∷ ds) zero id new gap =
    ap (λ (r : Ordering). by_order r (Some (new ∷ d ∷ ds)) None (option_map (λ later. d ∷ later) (place id new ds)))
    (flipped compare_total (key_of d) id orders.Greater (gap.after 0 d (omega arith) (omega arith)))
place_gap (d ∷ ds) (suc i) id new gap =
    ap (λ (r : Ordering). by_order r (Some (new ∷ d ∷ ds)) None (option_map (λ later. d ∷ later) (place id new ds)))
    (flipped compare_total (key_of d) id orders.Less (gap.before 0 d (omega arith) (omega arith)))
    ∙ ap (option_map (λ later. d ∷ later)) (place_gap ds i id new (IsGap-tail (by_key id) d ds i gap))

pub rises_tail : {X K : Type 0} (R : K → K → Ordering) (key : X → K) (x : X) (xs : List X) → Rises R key (x ∷ xs) → Rises R key xs
rises_tail R key x xs up i j d lt within = up (suc i) (suc j) d (omega arith) (omega arith)

pub place_there : (ds : List Pairs) (i : ℕ) (id : Tree) (new : Pairs) → Rises compare key_of ds → i < length ds
    → ((d : Pairs) → by_key id (get_or ds i d) ≡ orders.Equal) → place id new ds ≡ None
place_there [] i id new up within same = absurd (omega arith)
place_there (d ∷ ds) zero id new up within same =
    ap (λ (r : Ordering). by_order r (Some (new ∷ d ∷ ds)) None (option_map (λ later. d ∷ later) (place id new ds)))
    (flipped compare_total (key_of d) id orders.Equal (same d))
place_there (d ∷ ds) (suc i) id new up within same =
    let less : compare (key_of d) id ≡ orders.Less =
    sym (alike_right compare_total (key_of (get_or ds i d)) id (key_of d) (same d)) ∙ up 0 (suc i) d (omega arith) (omega arith) in
    ap (λ (r : Ordering). by_order r (Some (new ∷ d ∷ ds)) None (option_map (λ later. d ∷ later) (place id new ds)))
    (flipped compare_total (key_of d) id orders.Less less)
    ∙ ap (option_map (λ later. d ∷ later)) (place_there ds i id new (rises_tail compare key_of d ds up) (omega arith) same)

-- what a search by a key found
pub place_found : (id : Tree) (ds : List Pairs) (r : Result ℕ ℕ) → Rises compare key_of ds → IsSearchInRange r (length ds)
    → IsBinarySearchResult (by_key id) ds r → IsPlace id ds r
place_found id ds (Ok i) up within found = (within, found, λ new. place_there ds i id new up within found)
place_found id ds (Err i) up within found =
    let gap = gap_found compare_total key_of ds id i up within found in
    (gap, λ new. place_gap ds i id new gap)

-- ---- a collection's place

not_named : (name : List ℕ) (c : Collection) → is_eq (by_name name c) ≡ false → bytes_eq name c.name ≡ false
not_named name c e = sym (is_eq-slice_cmp name c.name) ∙ ap is_eq (flipped nat_list_cmp_total c.name name (by_name name c) refl) ∙ reversed (by_name name c) e
  where
    reversed : (r : Ordering) → is_eq r ≡ false → is_eq (ordering_reverse r) ≡ false
    reversed orders.Less e = refl
    reversed orders.Equal e = absurd cc
    reversed orders.Greater e = refl

named_so : (name : List ℕ) (c : Collection) → by_name name c ≡ orders.Equal → bytes_eq name c.name ≡ true
named_so name c e = sym (is_eq-slice_cmp name c.name) ∙ ap is_eq (flipped nat_list_cmp_total c.name name orders.Equal e)

passes : (name : List ℕ) (c : Collection) (cs : List Collection) → bytes_eq name c.name ≡ false → find_collection (c ∷ cs) name ≡ find_collection cs name
passes name c cs e = ap (λ (b : Bool). if b then Some c else find_collection cs name) e

pub passes_on : (name : List ℕ) (c : Collection) (cs : List Collection) → slice_cmp nat_cmp name c.name ≡ orders.Greater
    → find_collection (c ∷ cs) name ≡ find_collection cs name
passes_on name c cs e = passes name c cs (sym (is_eq-slice_cmp name c.name) ∙ ap is_eq e)

its_own_reverse : (r : Ordering) → r ≡ ordering_reverse r → r ≡ orders.Equal
its_own_reverse orders.Less e = absurd cc
its_own_reverse orders.Equal e = refl
its_own_reverse orders.Greater e = absurd cc

pub found_first : (c : Collection) (cs : List Collection) → find_collection (c ∷ cs) c.name ≡ Some c
found_first c cs =
    let same : by_name c.name c ≡ orders.Equal = its_own_reverse (by_name c.name c) (nat_list_cmp_total.antisymm c.name c.name) in
    ap (λ (b : Bool). if b then Some c else find_collection cs c.name) (named_so c.name c same)

abbrev ByName : List Collection → Type 0
ByName cs = Rises (slice_cmp nat_cmp) (λ (c : Collection). c.name) cs

-- a collection that stands at a place is taken away there
pub without_there : (cs : List Collection) (i : ℕ) → ByName cs → i < length cs → without_collection (get_or cs i no_collection).name cs ≡ remove cs i
without_there [] i up within = absurd (omega arith)
without_there (c ∷ cs) zero up within =
    let same : by_name c.name c ≡ orders.Equal = its_own_reverse (by_name c.name c) (nat_list_cmp_total.antisymm c.name c.name) in
    ap (λ (b : Bool). if b then cs else c ∷ without_collection c.name cs) (named_so c.name c same)
without_there (c ∷ cs) (suc i) up within =
    let name = (get_or cs i no_collection).name in
    let other : bytes_eq name c.name ≡ false = not_named name c (ap is_eq (up 0 (suc i) no_collection (omega arith) within)) in
    ap (λ (b : Bool). if b then cs else c ∷ without_collection name cs) other
    ∙ ap (λ (ds : List Collection). c ∷ ds) (without_there cs i (rises_tail (slice_cmp nat_cmp) (λ (x : Collection). x.name) c cs up) (omega (arith, within)))

pub missing : (cs : List Collection) (i : ℕ) (name : List ℕ) → IsGap (by_name name) cs i → find_collection cs name ≡ None
missing [] i name gap = refl
missing (c ∷ cs) zero name gap =
    passes name c cs (not_named name c (ap is_eq (gap.after 0 c (omega arith) (omega arith)))) ∙ missing cs zero name (IsGap-tail_first (by_name name) c cs gap)
missing (c ∷ cs) (suc i) name gap =
    passes name c cs (not_named name c (ap is_eq (gap.before 0 c (omega arith) (omega arith)))) ∙ missing cs i name (IsGap-tail (by_name name) c cs i gap)

abbrev put_at : Collection → Collection → List Collection → Ordering → List Collection
put_at new c cs r = by_order r (new ∷ c ∷ cs) (new ∷ cs) (c ∷ put_collection new cs)

pub added : (cs : List Collection) (i : ℕ) (name : List ℕ) (new : Collection) → IsGap (by_name name) cs i → new.name ≡ name
    → put_collection new cs ≡ insert cs i new
added [] zero name new gap e = refl
added [] (suc i) name new gap e = absurd (omega (arith, gap.within))
added (c ∷ cs) zero name new gap e =
    ap (λ (n : List ℕ). put_at new c cs (slice_cmp nat_cmp n c.name)) e
    ∙ ap (put_at new c cs) (flipped nat_list_cmp_total c.name name orders.Greater (gap.after 0 c (omega arith) (omega arith)))
added (c ∷ cs) (suc i) name new gap e =
    ap (λ (n : List ℕ). put_at new c cs (slice_cmp nat_cmp n c.name)) e
    ∙ ap (put_at new c cs) (flipped nat_list_cmp_total c.name name orders.Less (gap.before 0 c (omega arith) (omega arith)))
    ∙ ap (λ (ds : List Collection). c ∷ ds) (added cs i name new (IsGap-tail (by_name name) c cs i gap) e)

before_it : (c : Collection) (cs : List Collection) (i : ℕ) (name : List ℕ) → ByName (c ∷ cs) → i < length cs
    → by_name name (get_or cs i no_collection) ≡ orders.Equal → by_name name c ≡ orders.Less
before_it c cs i name up within same =
    sym (alike_right nat_list_cmp_total (get_or cs i no_collection).name name c.name same) ∙ up 0 (suc i) no_collection (omega arith) (omega arith)

pub found : (cs : List Collection) (i : ℕ) (name : List ℕ) → ByName cs → i < length cs → by_name name (get_or cs i no_collection) ≡ orders.Equal
    → find_collection cs name ≡ Some (get_or cs i no_collection)
found [] i name up within same = absurd (omega arith)
found (c ∷ cs) zero name up within same = ap (λ (b : Bool). if b then Some c else find_collection cs name) (named_so name c same)
found (c ∷ cs) (suc i) name up within same =
    passes name c cs (not_named name c (ap is_eq (before_it c cs i name up (omega arith) same)))
    ∙ found cs i name (rises_tail (slice_cmp nat_cmp) (λ (c : Collection). c.name) c cs up) (omega arith) same

pub replaced : (cs : List Collection) (i : ℕ) (name : List ℕ) (new : Collection) → ByName cs → i < length cs
    → by_name name (get_or cs i no_collection) ≡ orders.Equal → new.name ≡ name → put_collection new cs ≡ set cs i new
replaced [] i name new up within same e = absurd (omega arith)
replaced (c ∷ cs) zero name new up within same e =
    ap (λ (n : List ℕ). put_at new c cs (slice_cmp nat_cmp n c.name)) e ∙ ap (put_at new c cs) (flipped nat_list_cmp_total c.name name orders.Equal same)
replaced (c ∷ cs) (suc i) name new up within same e =
    ap (λ (n : List ℕ). put_at new c cs (slice_cmp nat_cmp n c.name)) e
    ∙ ap (put_at new c cs) (flipped nat_list_cmp_total c.name name orders.Less (before_it c cs i name up (omega arith) same))
    ∙ ap (λ (ds : List Collection). c ∷ ds) (replaced cs i name new (rises_tail (slice_cmp nat_cmp) (λ (c : Collection). c.name) c cs up) (omega arith) same e)

-- what a search by a name found
pub named_at : (name : List ℕ) (cs : List Collection) (r : Result ℕ ℕ) → ByName cs → IsSearchInRange r (length cs) → IsBinarySearchResult (by_name name) cs r
    → IsNamedAt name cs r
named_at name cs (Ok i) up within same = record {
  within = within;
  named = exact_bytes (get_or cs i no_collection).name name (same no_collection);
  found = found cs i name up within (same no_collection);
  replaced = λ c e. replaced cs i name c up within (same no_collection) e;
}
named_at name cs (Err i) up within same =
    let gap = gap_found nat_list_cmp_total (λ (c : Collection). c.name) cs name i up within same in
    record { gap = gap; found = missing cs i name gap; added = λ c e. added cs i name c gap e }
