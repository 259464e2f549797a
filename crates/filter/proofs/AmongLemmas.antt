-- One of many values: what is asked by conditions is told by the values, in any order; and what a
-- search among ascending ones tells.
use Rattle.std.proofs.Common.{◌≡◌, ℕ, ◌+◌, ◌<◌, ◌≤◌, Bool, true, false, Some, List, [], ◌∷◌, length, map, get_or, Result, Ok, Err, refl, sym, ap, ◌∙◌}
use Rattle.std.proofs.Common.{arith, ◌⊎◌, inl, inr}
use Rattle.std.specs.Prelude.{◌||◌, ◌&&◌, is_ok}
use Rattle.std.specs.List.{All, HoldsAt, list_any}
use Rattle.std.specs.List.Sorted.{IsBinarySearchResult, IsPartitionPoint, IsPermutation, IsSearchInRange, IsSortedByKey}
use Rattle.std.specs.declared.cmp.Ordering.{Ordering}
use Rattle.std.specs.declared.cmp.Ordering.TheVariants.{Less, Equal, Greater}
use Rattle.std.specs.Ordering.{is_lt, ordering_reverse}
use Rattle.std.proofs.lemmas.Bool.{cases_lt}
use Rattle.std.proofs.lemmas.List.{length-map, get_or-map}
use Rattle.std.proofs.lemmas.List.Folds.{list_any_none, list_any_at}
use Rattle.std.proofs.lemmas.List.Sorted.{list_any-IsPermutation, searchable_from_sorted}
use Rattle.bson.specs.Tree.{Tree, scalar, text, binary, object_id, boolean, date, null, int32, timestamp, int64, min_key, max_key, document, array, Items}
use Rattle.bson.specs.Tree.{no_items, item}
use Rattle.bson.specs.View.{tree, items_of}
use Rattle.bson.specs.declared.value.Value.{Value}
use Rattle.value_order.specs.Order.{compare}
use Rattle.value_order.specs.TotalLaws.{compare_total}
use Rattle.path.specs.Reach.{Reached, items_list}
use Rattle.filter.specs.Condition.{equals, equal}
use Rattle.filter.specs.Matches.{is_equal, is_null, is_missing, candidates_of, passes, Subject, whole, along, alone, some_reached, any_holds}
use Rattle.filter.specs.Among.{is_among, among_passes, AsksOneOf}

-- ---- one value more

any_either : {X : Type 0} (p q : X → Bool) (xs : List X) → list_any (λ x. p x || q x) xs ≡ (list_any p xs || list_any q xs)
any_either p q [] = refl
any_either p q (x ∷ xs) = ap (λ b. (p x || q x) || b) (any_either p q xs) ∙ exchanged (p x) (q x) (list_any p xs) (list_any q xs)
  where
    exchanged : (a b c d : Bool) → ((a || b) || (c || d)) ≡ ((a || c) || (b || d))
    exchanged true b c d = refl
    exchanged false true true d = refl
    exchanged false true false d = refl
    exchanged false false true d = refl
    exchanged false false false d = refl

any_never : {X : Type 0} (xs : List X) → list_any (λ x. false) xs ≡ false
any_never [] = refl
any_never (x ∷ xs) = any_never xs

told_apart : (a b c d m : Bool) → ((a || b) || ((c || d) && m)) ≡ ((a || (c && m)) || (b || (d && m)))
told_apart true b c d m = refl
told_apart false true true true true = refl
told_apart false true true true false = refl
told_apart false true true false true = refl
told_apart false true true false false = refl
told_apart false true false true true = refl
told_apart false true false true false = refl
told_apart false true false false true = refl
told_apart false true false false false = refl
told_apart false false true d true = refl
told_apart false false true true false = refl
told_apart false false true false false = refl
told_apart false false false d m = refl

passes_more : (v : Tree) (vs : List Tree) (one : Bool) (r : Reached)
    → among_passes (v ∷ vs) one r ≡ (passes (equal v) one r || among_passes vs one r)
passes_more v vs one r =
    ap (λ b. b || ((is_null v || list_any is_null vs) && is_missing r))
    (any_either (λ t. is_equal (compare t v)) (is_among vs) (candidates_of one r))
    ∙ told_apart (list_any (λ t. is_equal (compare t v)) (candidates_of one r)) (list_any (is_among vs) (candidates_of one r)) (is_null v)
    (list_any is_null vs) (is_missing r)

reached_either : (p q : Bool → Reached → Bool) (s : Subject)
    → some_reached (λ one r. p one r || q one r) s ≡ (some_reached p s || some_reached q s)
reached_either p q (whole ps) = refl
reached_either p q (along rs) = any_either (p false) (q false) rs
reached_either p q (alone t) = refl

reached_never : (s : Subject) → some_reached (among_passes []) s ≡ false
reached_never (whole ps) = refl
reached_never (along rs) = none rs
  where
    none : (rs : List Reached) → list_any (among_passes [] false) rs ≡ false
    none [] = refl
    none (r ∷ rs) = ap (λ b. (b || false) || list_any (among_passes [] false) rs) (any_never (candidates_of false r)) ∙ none rs
reached_never (alone t) = refl

reached_alike : (p q : Bool → Reached → Bool) (s : Subject) → ((one : Bool) (r : Reached) → p one r ≡ q one r) → some_reached p s ≡ some_reached q s
reached_alike p q s same = λ i. some_reached (λ one r. same one r i) s

-- the conditions of a list ask for one of its values
pub asks_one_of : (ts : Items) (s : Subject) → any_holds (equals ts) s ≡ some_reached (among_passes (items_list ts)) s
asks_one_of no_items s = sym (reached_never s)
asks_one_of (item t ts) s =
    ap (λ b. some_reached (passes (equal t)) s || b) (asks_one_of ts s)
    ∙ sym (reached_either (passes (equal t)) (among_passes (items_list ts)) s)
    ∙ sym (reached_alike _ _ s (passes_more t (items_list ts)))

-- ---- in any order

passes_permuted : (vs ws : List Tree) → IsPermutation vs ws → (one : Bool) (r : Reached) → among_passes vs one r ≡ among_passes ws one r
passes_permuted vs ws same one r =
    λ i. list_any (λ t. list_any-IsPermutation (λ v. is_equal (compare t v)) vs ws same i) (candidates_of one r)
    || (list_any-IsPermutation is_null vs ws same i && is_missing r)

pub asks_permuted : (ts : Items) (vs : List Tree) → IsPermutation (items_list ts) vs → AsksOneOf (Some vs) (equals ts)
asks_permuted ts vs same s = asks_one_of ts s ∙ reached_alike _ _ s (passes_permuted (items_list ts) vs same)

pub items_mapped : (vs : List Value) → items_list (items_of vs) ≡ map tree vs
items_mapped [] = refl
items_mapped (v ∷ vs) = ap (λ ts. tree v ∷ ts) (items_mapped vs)

-- values of the same trees ascend alike
pub sorted_alike : (vs ws : List Value) → map tree ws ≡ map tree vs → IsSortedByKey tree compare vs → IsSortedByKey tree compare ws
sorted_alike vs ws same up k d low high =
    let long : length ws ≡ length vs = sym (length-map ws tree) ∙ ap length same ∙ length-map vs tree in
    (λ i. is_lt (compare (at (k + 1) (omega arith) i) (at k (omega arith) i)))
    ∙ up k d low (omega (arith, long))
  where
    at : (n : ℕ) → n < length ws → tree (get_or ws n d) ≡ tree (get_or vs n d)
    at n within =
        let long : length ws ≡ length vs = sym (length-map ws tree) ∙ ap length same ∙ length-map vs tree in
        sym (get_or-map tree ws n d (tree d) within) ∙ ap (λ ts. get_or ts n (tree d)) same ∙ get_or-map tree vs n d (tree d) (omega (arith, long))

-- ---- a search

flipped : (t v : Tree) (o : Ordering) → compare v t ≡ o → compare t v ≡ ordering_reverse o
flipped t v o e = compare_total.antisymm t v ∙ ap ordering_reverse e

among_mapped : (vs : List Value) (t : Tree) → is_among (map tree vs) t ≡ list_any (λ v. is_equal (compare t (tree v))) vs
among_mapped [] t = refl
among_mapped (v ∷ vs) t = ap (λ b. is_equal (compare t (tree v)) || b) (among_mapped vs t)

none_ties : (vs : List Value) (t : Tree) (i : ℕ) → IsPartitionPoint (λ v. compare (tree v) t ≡ Less) (λ v. compare (tree v) t ≡ Greater) vs i
    → All (λ v. is_equal (compare t (tree v)) ≡ false) vs
none_ties vs t i parts k d within = by (cases_lt k i)
  where
    by : (k < i) ⊎ (i ≤ k) → is_equal (compare t (tree (get_or vs k d))) ≡ false
    by (inl before) = ap is_equal (flipped t (tree (get_or vs k d)) Less (parts.0 k d (omega arith) before))
    by (inr from) = ap is_equal (flipped t (tree (get_or vs k d)) Greater (parts.1 k d from within))

at_place : (v : Value) (vs : List Value) (t : Tree) (i : ℕ) → i < length (v ∷ vs) → HoldsAt (λ w. compare (tree w) t ≡ Equal) (v ∷ vs) i
    → is_among (map tree (v ∷ vs)) t ≡ true
at_place v vs t i within found =
    among_mapped (v ∷ vs) t
    ∙ list_any_at (λ w. is_equal (compare t (tree w))) (v ∷ vs) i v within (ap is_equal (flipped t (tree (get_or (v ∷ vs) i v)) Equal (found v)))

pub search_told : (vs : List Value) (t : Tree) (r : Result ℕ ℕ) → IsSortedByKey tree compare vs → IsSearchInRange r (length vs)
    → IsBinarySearchResult (λ v. compare (tree v) t) vs r
    → is_ok r ≡ is_among (map tree vs) t
search_told [] t (Ok i) up range found = absurd (omega (arith, range))
search_told (v ∷ vs) t (Ok i) up range found = sym (at_place v vs t i range found)
search_told vs t (Err i) up range found =
    sym (among_mapped vs t ∙ list_any_none (λ v. is_equal (compare t (tree v))) vs
    (none_ties vs t i (found (searchable_from_sorted compare_total tree vs t up))))

-- ---- Missing

-- null alone is equal to null
pub null_is_null : (t : Tree) → is_equal (compare (scalar null) t) ≡ is_null t
null_is_null (scalar (text s)) = refl
null_is_null (scalar (binary k s)) = refl
null_is_null (scalar (object_id s)) = refl
null_is_null (scalar (boolean b)) = refl
null_is_null (scalar (date z)) = refl
null_is_null (scalar null) = refl
null_is_null (scalar (int32 z)) = refl
null_is_null (scalar (timestamp n)) = refl
null_is_null (scalar (int64 z)) = refl
null_is_null (scalar min_key) = refl
null_is_null (scalar max_key) = refl
null_is_null (document ps) = refl
null_is_null (array ts) = refl
