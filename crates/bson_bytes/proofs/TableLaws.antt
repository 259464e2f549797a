-- Names that are compared by sorting some of them in a table.
use Rattle.std.proofs.Common.{◌≡◌, ◌⊎◌, ℕ, zero, suc, ◌+◌, ◌-◌, ◌<◌, ◌≤◌, Bool, false, not, ◌||◌, ◌==◌, Option, Some, List, [], ◌∷◌, ◌++◌, length, map}
use Rattle.std.proofs.Common.{take, drop}
use Rattle.std.proofs.Common.{get_or, set, IfSome, Result, Ok, Err, Bor, refl, sym, ap, subst, ◌∙◌, append_assoc, arith, inl, inr, drop-cons}
use Rattle.std.specs.Result.{is_ok}
use Rattle.std.specs.Str.{bytes_eq}
use Rattle.std.specs.List.{list_any, IsDistinct, AllByRecursion}
use Rattle.std.specs.List.Sorted.{IsStrictlySortedBy, IsNonDecreasingBy, IsBinarySearchResult, IsPartitionPoint, IsPermutation}
use Rattle.std.specs.Ordering.{nat_cmp, is_lt, is_eq, ordering_reverse, ordering_index, eq_by_cmp}
use Rattle.std.specs.declared.cmp.Ordering.{Ordering}
use Rattle.std.specs.declared.cmp.Ordering.TheVariants as orders
use Rattle.std.specs.Cmp.Lexicographic.{slice_cmp}
use Rattle.std.proofs.lemmas.Cmp.{nat_list_cmp_total}
use Rattle.std.proofs.lemmas.Bool.{cases_lt}
use Rattle.std.proofs.lemmas.List.{take_all, take-append-le, drop-append-le, drop-drop, length-append, length-drop, get_or-map, map-append, take_more_set}
use Rattle.std.proofs.Math.Seq.{take-add, drop-append_seam, take-append_seam}
use Rattle.std.proofs.lemmas.List.Folds.{list_any-append}
use Rattle.std.proofs.lemmas.List.Sorted.{searchable_from_sorted, list_any-IsPermutation, IsPermutation-map, IsPermutation-sym}
use Rattle.std.proofs.lemmas.Map.Keys.{Less-from_sorted, sorted_from_all_adjacent, IsDistinct-from_sorted, IsDistinct-IsPermutation, IsDistinct-head}
use Rattle.std.proofs.lemmas.Map.Keys.{IsDistinct-tail}
use Rattle.std.proofs.lemmas.Map.Text.{is_eq-slice_cmp}
use Rattle.bson.specs.Lookup.{stands_in}
use Rattle.bson_bytes.specs.RawNames.{AreNew, AreOthers, AreApart}

abbrev Name : Type 0
Name = List ℕ

abbrev pub Lent : Type 0
Lent = Bor (List ℕ)

-- the names that a table lends
abbrev pub lent : List Lent → List Name
lent table = map (λ n. n.now) table

lent_len : (table : List Lent) → length (lent table) ≡ length table
lent_len [] = refl
lent_len (b ∷ table) = ap suc (lent_len table)

abbrev pub before : Name → Name → Ordering
before a b = slice_cmp nat_cmp a b

-- ---- a table in ascending order

flipped : (a b : Name) → before a b ≡ orders.Less → before b a ≡ orders.Greater
flipped a b e = nat_list_cmp_total.antisymm b a ∙ ap ordering_reverse e

less_at : (table : List Lent) (k : ℕ) (d : Lent) → IsStrictlySortedBy before (lent table) → k + 1 < length table
    → before (get_or table k d).now (get_or table (k + 1) d).now ≡ orders.Less
less_at table k d h lt =
    let m = get_or-map (λ (b : Lent). b.now) table k d d.now (omega arith) in
    let n = get_or-map (λ (b : Lent). b.now) table (k + 1) d d.now lt in
    (λ i. before (sym m i) (sym n i)) ∙ Less-from_sorted before (lent table) k (k + 1) d.now h (omega arith) (omega (arith, lent_len table))

searchable : (table : List Lent) (name : Name) → IsStrictlySortedBy before (lent table)
    → IsNonDecreasingBy (λ (y : Lent). ordering_index (before y.now name)) table
searchable table name h =
    searchable_from_sorted nat_list_cmp_total (λ (b : Lent). b.now) table name
    (λ k d low lt. ap is_lt (flipped (get_or table k d).now (get_or table (k + 1) d).now (less_at table k d h lt)))

none_at : (p : Name → Bool) (ns : List Name) → ((i : ℕ) → i < length ns → p (get_or ns i []) ≡ false) → list_any p ns ≡ false
none_at p [] h = refl
none_at p (n ∷ ns) h = rw (h 0 (omega arith), none_at p ns (λ i lt. h (suc i) (omega arith))) refl

differ_less : (a name : Name) → before a name ≡ orders.Less → bytes_eq name a ≡ false
differ_less a name e = sym (is_eq-slice_cmp name a) ∙ ap is_eq (flipped a name e)

differ_greater : (a name : Name) → before a name ≡ orders.Greater → bytes_eq name a ≡ false
differ_greater a name e = sym (is_eq-slice_cmp name a) ∙ ap is_eq (nat_list_cmp_total.antisymm name a ∙ ap ordering_reverse e)

-- a search that finds nothing
pub not_found : (table : List Lent) (name : Name) (r : Result ℕ ℕ) → IsStrictlySortedBy before (lent table)
    → IsBinarySearchResult (λ (y : Lent). before y.now name) table r → is_ok r ≡ false → stands_in (lent table) name ≡ false
not_found table name (Ok i) h found e = absurd cc
not_found table name (Err i) h found e = none_at (bytes_eq name) (lent table) (λ k lt. at k (omega (arith, lt, lent_len table)))
  where
    here : (k : ℕ) (d : Lent) → k < length table → bytes_eq name (get_or table k d).now ≡ false → bytes_eq name (get_or (lent table) k []) ≡ false
    here k d lt e = ap (bytes_eq name) (get_or-map (λ (b : Lent). b.now) table k d [] lt) ∙ e

    at : (k : ℕ) → k < length table → bytes_eq name (get_or (lent table) k []) ≡ false
    at k lt =
        let d : Lent = record { ref_ptr = (0, 0); now = [] } in
        let point = found (searchable table name h) in
        side k d lt point (cases_lt k i)
      where
        side : (k : ℕ) (d : Lent) → k < length table
            → IsPartitionPoint (λ (y : Lent). before y.now name ≡ orders.Less) (λ (y : Lent). before y.now name ≡ orders.Greater) table i → (k < i) ⊎ (i ≤ k)
            → bytes_eq name (get_or (lent table) k []) ≡ false
        side k d lt point (inl less) = here k d lt (differ_less (get_or table k d).now name (point.0 k d (omega arith) less))
        side k d lt point (inr more) = here k d lt (differ_greater (get_or table k d).now name (point.1 k d more lt))

-- ---- one name more behind the table

pub others_start : (others names : List Name) → AreOthers 0 others names
others_start others names earlier name later e lt = absurd (omega arith)

pub cons_is : (x y : Name) (xs ys : List Name) → x ∷ xs ≡ y ∷ ys → x ≡ y
cons_is x y xs ys e = cc

-- the name at a place
pub at_place : (names earlier later : List Name) (name : Name) (n : ℕ) → names ≡ earlier ++ name ∷ later → length earlier ≡ n → drop n names ≡ name ∷ later
at_place names earlier later name n e at = ap (drop n) e ∙ ap (λ (m : ℕ). drop m (earlier ++ name ∷ later)) (sym at) ∙ drop-append_seam earlier (name ∷ later)

pub others_more : (others names rest : List Name) (n : ℕ) (next : Name) → AreOthers n others names → drop n names ≡ next ∷ rest → stands_in others next ≡ false
    → AreOthers (n + 1) others names
others_more others names rest n next h found fresh earlier name later e lt = by (cases_lt (length earlier) n)
  where
    by : (length earlier < n) ⊎ (n ≤ length earlier) → stands_in others name ≡ false
    by (inl less) = h earlier name later e less
    by (inr same) =
        let one = cons_is name next later rest (sym (at_place names earlier later name n e (omega arith)) ∙ found) in
        ap (stands_in others) one ∙ fresh

within_names : (names earlier later : List Name) (name : Name) (n : ℕ) → names ≡ earlier ++ name ∷ later → drop n names ≡ [] → length earlier < n
within_names names earlier later name n e none = omega (arith, ap length e, length-append earlier (name ∷ later), ap length none, length-drop n names)

pub others_all : (others names : List Name) (n most : ℕ) → AreOthers n others names → drop n names ≡ [] → AreOthers most others names
others_all others names n most h none earlier name later e lt = h earlier name later e (within_names names earlier later name n e none)

-- ---- a name that isn't one of those before it

pub take_front : (xs ys : List Name) (n : ℕ) → length xs ≡ n → take n (xs ++ ys) ≡ xs
take_front xs ys n e = ap (λ (m : ℕ). take m (xs ++ ys)) (sym e) ∙ take-append_seam xs ys

pub new_start : (names : List Name) → AreNew 0 names
new_start names earlier name later e lt = absurd (omega arith)

new_more : (names rest : List Name) (n : ℕ) (next : Name) → AreNew n names → drop n names ≡ next ∷ rest → stands_in (take n names) next ≡ false
    → AreNew (n + 1) names
new_more names rest n next h found fresh earlier name later e lt = by (cases_lt (length earlier) n)
  where
    by : (length earlier < n) ⊎ (n ≤ length earlier) → stands_in earlier name ≡ false
    by (inl less) = h earlier name later e less
    by (inr same) =
        let one = cons_is name next later rest (sym (at_place names earlier later name n e (omega arith)) ∙ found) in
        let front : take n names ≡ earlier = ap (take n) e ∙ take_front earlier (name ∷ later) n (omega arith) in
        ap (λ (ns : List Name). stands_in ns name) (sym front) ∙ ap (stands_in (take n names)) one ∙ fresh

pub new_lent : (table : List Lent) (n : ℕ) (d : Lent) → n < length table → AreNew n (lent table)
    → stands_in (lent (take n table)) (get_or table n d).now ≡ false → AreNew (n + 1) (lent table)
new_lent table n d within h fresh =
    let next : suc n ≡ n + 1 = omega arith in
    let long = lent_len table in
    new_more (lent table) (drop (n + 1) (lent table)) n (get_or table n d).now h
    (drop-cons (lent table) n d.now (omega arith)
    ∙ (λ i. get_or-map (λ (b : Lent). b.now) table n d d.now within i ∷ drop (next i) (lent table)))
    (ap (λ (ns : List Name). stands_in ns (get_or table n d).now) (sym (lent_front table n)) ∙ fresh)
  where
    lent_front : (table : List Lent) (n : ℕ) → lent (take n table) ≡ take n (lent table)
    lent_front table zero = refl
    lent_front [] (suc n) = refl
    lent_front (b ∷ table) (suc n) = ap (λ (ns : List Name). b.now ∷ ns) (lent_front table n)

-- ---- names of a table that differ

all_differ : (x name : Name) (earlier later : List Name) → IsDistinct (eq_by_cmp before) (x ∷ (earlier ++ name ∷ later)) → bytes_eq name x ≡ false
all_differ x name earlier later h = sym (is_eq-slice_cmp name x) ∙ ap is_eq (nat_list_cmp_total.antisymm name x)
    ∙ turned (before x name) (among earlier (IsDistinct-head (eq_by_cmp before) x (earlier ++ name ∷ later) h))
  where
    turned : (o : Ordering) → is_eq o ≡ false → is_eq (ordering_reverse o) ≡ false
    turned orders.Less e = refl
    turned orders.Equal e = e
    turned orders.Greater e = refl

    among : (earlier : List Name) → AllByRecursion (λ (y : Name). eq_by_cmp before x y ≡ false) (earlier ++ name ∷ later) → is_eq (before x name) ≡ false
    among [] all = all.0
    among (n ∷ earlier) all = among earlier all.1

distinct_new : (earlier later : List Name) (name : Name) → IsDistinct (eq_by_cmp before) (earlier ++ name ∷ later) → stands_in earlier name ≡ false
distinct_new [] later name h = refl
distinct_new (x ∷ earlier) later name h =
    rw (all_differ x name earlier later h, distinct_new earlier later name (IsDistinct-tail (eq_by_cmp before) x (earlier ++ name ∷ later) h)) refl

-- ---- some names that are apart from each other and from some behind them

pub apart_start : (n : ℕ) (names : List Name) → AreApart 0 n names
apart_start n names earlier name later e lt = refl

split_drop : (names earlier later : List Name) (name : Name) (n : ℕ) → names ≡ earlier ++ name ∷ later → n ≤ length earlier
    → drop n names ≡ drop n earlier ++ name ∷ later
split_drop names earlier later name n e le = ap (drop n) e ∙ drop-append-le n earlier (name ∷ later) le

pub apart_more : (done limit count others : ℕ) (names : List Name) → AreApart done limit names → AreApart count (count + others) (drop done names)
    → done + count + others ≤ limit → AreApart (done + count) (done + count + others) names
apart_more done limit count others names first next le earlier name later e lt = by (cases_lt (length earlier) done)
  where
    before_all : stands_in (take done earlier) name ≡ false
    before_all = first earlier name later e (omega arith)

    by : (length earlier < done) ⊎ (done ≤ length earlier) → stands_in (take (done + count) earlier) name ≡ false
    by (inl less) =
        ap (λ (ns : List Name). stands_in ns name) (take_all (done + count) earlier (omega arith) ∙ sym (take_all done earlier (omega arith))) ∙ before_all
    by (inr more) =
        let behind = next (drop done earlier) name later (split_drop names earlier later name done e more) (omega (arith, length-drop done earlier)) in
        ap (λ (ns : List Name). stands_in ns name) (take-add done count earlier)
        ∙ list_any-append (bytes_eq name) (take done earlier) (take count (drop done earlier))
        ∙ ap (λ (b : Bool). b || stands_in (take count (drop done earlier)) name) before_all ∙ behind

pub apart_less : (done limit fewer : ℕ) (names : List Name) → AreApart done limit names → fewer ≤ limit → AreApart done fewer names
apart_less done limit fewer names h le earlier name later e lt = h earlier name later e (omega arith)

pub apart_new : (done limit n : ℕ) (names : List Name) → AreApart done limit names → n ≤ done → n ≤ limit → AreNew n names
apart_new done limit n names h le le2 earlier name later e lt =
    ap (λ (ns : List Name). stands_in ns name) (sym (take_all done earlier (omega arith))) ∙ h earlier name later e (omega arith)

-- no names are left behind the first
pub apart_all : (done limit : ℕ) (names : List Name) → AreApart done limit names → drop done names ≡ [] → AreNew limit names
apart_all done limit names h none earlier name later e lt =
    let le = within_names names earlier later name done e none in
    ap (λ (ns : List Name). stands_in ns name) (sym (take_all done earlier (omega arith))) ∙ h earlier name later e lt

equal_turned : (o : Ordering) → is_eq (ordering_reverse o) ≡ is_eq o
equal_turned orders.Less = refl
equal_turned orders.Equal = refl
equal_turned orders.Greater = refl

drop_front : (xs ys : List Name) (n : ℕ) → length xs ≡ n → drop n (xs ++ ys) ≡ ys
drop_front xs ys n e = ap (λ (m : ℕ). drop m (xs ++ ys)) (sym e) ∙ drop-append_seam xs ys

-- a name that stands in the first of two lists
front_is : (xs ys earlier later : List Name) (name : Name) → xs ++ ys ≡ earlier ++ name ∷ later → length earlier < length xs
    → (rest : List Name) × (xs ≡ earlier ++ name ∷ rest)
front_is [] ys earlier later name e lt = absurd (omega arith)
front_is (x ∷ xs) ys [] later name e lt = (xs, ap (λ (n : Name). n ∷ xs) (cons_is x name (xs ++ ys) later e))
front_is (x ∷ xs) ys (n ∷ earlier) later name e lt =
    let one = cons_is x n (xs ++ ys) (earlier ++ name ∷ later) e in
    let others : xs ++ ys ≡ earlier ++ name ∷ later = cc in
    let more = front_is xs ys earlier later name others (omega arith) in
    (more.0, λ i. one i ∷ more.1 i)

-- the names of a table, which was sorted, and of those behind it
pub table_apart : (count others : ℕ) (names behind : List Name) (old sorted : List Lent) → names ≡ lent old ++ behind → length old ≡ count
    → IsPermutation old sorted → IsStrictlySortedBy before (lent sorted) → AreOthers others (lent sorted) behind
    → AreApart count (count + others) names
table_apart count others names behind old sorted whole counted moved rising apart earlier name later e lt = by (cases_lt (length earlier) count)
  where
    same : IsPermutation (lent old) (lent sorted)
    same = IsPermutation-map (λ (b : Lent). b.now) old sorted moved

    back : IsPermutation (lent sorted) (lent old)
    back = IsPermutation-sym (lent old) (lent sorted) same

    distinct : IsDistinct (eq_by_cmp before) (lent old)
    distinct = IsDistinct-IsPermutation (eq_by_cmp before) (λ a b. ap is_eq (nat_list_cmp_total.antisymm a b) ∙ equal_turned (before b a)) (lent sorted)
        (lent old) back (IsDistinct-from_sorted before (lent sorted) rising)

    by : (length earlier < count) ⊎ (count ≤ length earlier) → stands_in (take count earlier) name ≡ false
    by (inl less) =
        let front = front_is (lent old) behind earlier later name (sym whole ∙ e) (omega (arith, lent_len old)) in
        ap (λ (ns : List Name). stands_in ns name) (take_all count earlier (omega arith))
        ∙ distinct_new earlier front.0 name (subst (IsDistinct (eq_by_cmp before)) front.1 distinct)
    by (inr more) =
        let tail = sym (ap (drop count) whole ∙ drop_front (lent old) behind count (lent_len old ∙ counted))
        ∙ split_drop names earlier later name count e more in
        let front : take count earlier ≡ lent old =
        sym (take-append-le count earlier (name ∷ later) more) ∙ ap (take count) (sym e ∙ whole)
        ∙ take_front (lent old) behind count (lent_len old ∙ counted) in
        ap (λ (ns : List Name). stands_in ns name) front ∙ list_any-IsPermutation (bytes_eq name) (lent old) (lent sorted) same
        ∙ apart (drop count earlier) name later tail (omega (arith, length-drop count earlier))

-- ---- filling a table

-- one name more
pub noted : (table : List Lent) (slot : Lent) (n : ℕ) → n < length table → lent (take (n + 1) (set table n slot)) ≡ lent (take n table) ++ slot.now ∷ []
noted table slot n lt = ap lent (take_more_set table n slot lt) ∙ map-append (λ (b : Lent). b.now) (take n table) (slot ∷ [])

pub filled_more : (table : List Lent) (slot : Lent) (n : ℕ) (all left later : List Name) → n < length table → all ≡ lent (take n table) ++ left
    → left ≡ slot.now ∷ later → all ≡ lent (take (n + 1) (set table n slot)) ++ later
filled_more table slot n all left later lt whole found =
    whole ∙ ap (λ (ns : List Name). lent (take n table) ++ ns) found ∙ sym (append_assoc (lent (take n table)) (slot.now ∷ []) later)
    ∙ ap (λ (ns : List Name). ns ++ later) (sym (noted table slot n lt))

pub rising_more : (table : List Lent) (n : ℕ) (d e : Lent) → 0 < n → n < length table → before (get_or table (n - 1) d).now (get_or table n e).now ≡ orders.Less
    → ((k : ℕ) → k + 1 < n → before (get_or (lent table) k []) (get_or (lent table) (k + 1) []) ≡ orders.Less) → (k : ℕ) → k + 1 < n + 1
    → before (get_or (lent table) k []) (get_or (lent table) (k + 1) []) ≡ orders.Less
rising_more table n d e pos lt less all k le = by (cases_lt (k + 1) n)
  where
    by : (k + 1 < n) ⊎ (n ≤ k + 1) → before (get_or (lent table) k []) (get_or (lent table) (k + 1) []) ≡ orders.Less
    by (inl earlier) = all k earlier
    by (inr last) =
        let at : k ≡ n - 1 = omega arith in
        let next : k + 1 ≡ n = omega arith in
        let one = ap (λ (m : ℕ). get_or (lent table) m []) at ∙ get_or-map (λ (b : Lent). b.now) table (n - 1) d [] (omega arith) in
        let other = ap (λ (m : ℕ). get_or (lent table) m []) next ∙ get_or-map (λ (b : Lent). b.now) table n e [] lt in
        (λ i. before (one i) (other i)) ∙ less

pub rising : (table : List Lent) → ((k : ℕ) → k + 1 < length table → before (get_or (lent table) k []) (get_or (lent table) (k + 1) []) ≡ orders.Less)
    → IsStrictlySortedBy before (lent table)
rising table all = sorted_from_all_adjacent nat_list_cmp_total (lent table) [] (λ k lt. all k (omega (arith, lent_len table)))

-- the names behind the next one
pub behind_next : (all left later : List Name) (name : Name) (n : ℕ) → left ≡ drop n all → left ≡ name ∷ later
    → (drop n all ≡ name ∷ later) × (later ≡ drop (n + 1) all)
behind_next all left later name n behind found =
    let here = sym behind ∙ found in
    (here, sym (ap (drop 1) here) ∙ drop-drop 1 n all)

pub only_less : (o : Ordering) → not (ordering_index o == 0) ≡ false → o ≡ orders.Less
only_less orders.Less e = refl
only_less orders.Equal e = absurd cc
only_less orders.Greater e = absurd cc

-- the names of one table more
pub apart_next : (names : List ℕ → List Name) (done limit count others most : ℕ) (elements rest : List ℕ) (after : Lent) (found : Option (ℕ × Lent))
    → AreApart done limit (names elements) → names rest ≡ drop done (names elements) → found ≡ Some (others, after)
    → IfSome found (λ (x : ℕ × Lent). (x.0 ≤ most) × AreApart count (count + x.0) (names rest))
    → IfSome found (λ (x : ℕ × Lent). (count + length x.1.now ≤ length rest) × (names x.1.now ≡ drop count (names rest)))
    → done + count + most ≤ limit
    → AreApart (done + count) (done + count + others) (names elements) × (names after.now ≡ drop (done + count) (names elements))
    × (count + length after.now ≤ length rest)
apart_next names done limit count others most elements rest after found first behind is next later le =
    let n = subst (λ (o : Option (ℕ × Lent)). IfSome o (λ (x : ℕ × Lent). (x.0 ≤ most) × AreApart count (count + x.0) (names rest))) is next in
    let l = subst
    (λ (o : Option (ℕ × Lent)). IfSome o (λ (x : ℕ × Lent). (count + length x.1.now ≤ length rest) × (names x.1.now ≡ drop count (names rest)))) is later in (
      apart_more done limit count others (names elements) first (subst (AreApart count (count + others)) behind n.1) (omega (arith, n.0, le)),
      l.1 ∙ ap (drop count) behind ∙ drop-drop count done (names elements),
      l.0,
    )
