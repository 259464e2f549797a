-- Entries of a range, part after part.
use Rattle.std.proofs.Common.{◌≡◌, ℕ, zero, suc, ◌+◌, ◌-◌, ◌<◌, ◌≤◌, List, [], ◌∷◌, ◌++◌, ◌&&◌, not, length, map, take, drop, get_or, Option, Some, None, Vec}
use Rattle.std.proofs.Common.{◌⊎◌, inl, inr, Global, Result, Ok, Err, Bool, true, false, refl, sym, ap, ◌∙◌, subst, arith, append_assoc, append-nil}
use Rattle.std.proofs.lemmas.List.{take-append-drop, get_or_default}
use Rattle.std.proofs.Math.Nat.{eq-or-lt_of_le}
use Rattle.std.specs.declared.cmp.Ordering.TheVariants.{Less, Equal, Greater}
use Rattle.std.specs.Ordering.{is_lt}
use Rattle.btree.specs.declared.scanning.Entry.{Entry as KeptEntry}
use Rattle.btree.specs.declared.scanning.Filling.{Filling}
use Rattle.page.specs.Content.{Item, Pivot, branch, leaf}
use Rattle.tree_model.specs.Keys.{Pair, Entry, entry_of, Each, Rises, IsUnder, IsNotUnder, IsWithin, IsPast, key_cmp, keep_if, is_within, window}
use Rattle.tree_model.specs.Search.{IsPlace, IsEndPlace, IsChildPlace, AreBounds}
use Rattle.std.specs.Result.{IsErrAnd}
use Rattle.tree_model.specs.declared.pages.TreeFault.{TreeFault}
use Rattle.tree_model.specs.Calls.{IsAnswer, IsBatch, IsPart}
use Rattle.btree.specs.Scan.{Fills, HoldsBatch, entry_in}
use Rattle.tree_model.proofs.StoreLemmas.{cause_later, part_kept, shows_kept}
use Rattle.tree_model.specs.Store.{Store, Frame, HasCause}
use Rattle.tree_model.specs.Tree.{Subtree, Body, HasChain, Shows, IsSound, IsWhole, pivot_of, entries_of, item_of, pair_keys, pairs_of, subtree_keys, with_low}
use Rattle.tree_model.proofs.KeyLemmas.{not_both, not_under_trans, under_then_up_to, under_trans, within_wider}
use Rattle.tree_model.proofs.ListLemmas.{each_back, each_get, each_map, each_of_map, cut_at, flat_append, long_map, map_append, rises_back}
use Rattle.tree_model.proofs.GetLemmas.{child_part, open_branch, open_leaf, from_is, front_is_under, place_here}
use Rattle.tree_model.proofs.FanLemmas.{around_child, fan_between, fans_around, keys_around, low_of, pairs_between}

pub window_append : (from : List ℕ) (to : Option (List ℕ)) (xs ys : List Entry) → window from to (xs ++ ys) ≡ window from to xs ++ window from to ys
window_append from to [] ys = refl
window_append from to (x ∷ xs) ys =
    elim (not (is_lt (key_cmp x.key from)) && is_within to x.key) as
    (λ b. keep_if b x (window from to (xs ++ ys)) ≡ keep_if b x (window from to xs) ++ window from to ys)
    [ true ↦ ap (λ zs. x ∷ zs) (window_append from to xs ys) | false ↦ window_append from to xs ys ]

-- what comes behind the first ones
pub rest_behind : (from : List ℕ) (to : Option (List ℕ)) (all : List Entry) (pairs : List Pair) (i : ℕ)
    → (all ++ window from to (map entry_of (take i pairs))) ++ window from to (map entry_of (drop i pairs)) ≡ all ++ window from to (map entry_of pairs)
rest_behind from to all pairs i =
    append_assoc all (window from to (map entry_of (take i pairs))) (window from to (map entry_of (drop i pairs)))
    ∙ ap (λ zs. all ++ zs) (sym (window_append from to (map entry_of (take i pairs)) (map entry_of (drop i pairs)))
    ∙ ap (window from to) (sym (map_append entry_of (take i pairs) (drop i pairs)) ∙ ap (map entry_of) (take-append-drop i pairs)))

pub not_less : (a b : List ℕ) → IsNotUnder a b → is_lt (key_cmp a b) ≡ false
not_less a b h = elim (key_cmp a b) as (λ r. (r ≡ Less → ⊥) → is_lt r ≡ false) [ Less ↦ (λ n. absurd (n refl)) | Equal ↦ (λ n. refl) | Greater ↦ (λ n. refl) ] h

-- what lies below the range, and what lies past it
pub window_under : (from : List ℕ) (to : Option (List ℕ)) (xs : List Entry) → Each (λ x. IsUnder x.key from) xs → window from to xs ≡ []
window_under from to [] h = refl
window_under from to (x ∷ xs) h = ap (λ r. keep_if (not (is_lt r) && is_within to x.key) x (window from to xs)) h.0 ∙ window_under from to xs h.1

is_past : (to : Option (List ℕ)) (key : List ℕ) → IsPast to key → is_within to key ≡ false
is_past None key h = absurd h
is_past (Some high) key h = not_less key high h

both_false : (b : Bool) → (b && false) ≡ false
both_false true = refl
both_false false = refl

pub window_past : (from : List ℕ) (to : Option (List ℕ)) (xs : List Entry) → Each (λ x. IsPast to x.key) xs → window from to xs ≡ []
window_past from to [] h = refl
window_past from to (x ∷ xs) h =
    ap (λ b. keep_if (not (is_lt (key_cmp x.key from)) && b) x (window from to xs)) (is_past to x.key h.0)
    ∙ ap (λ b. keep_if b x (window from to xs)) (both_false (not (is_lt (key_cmp x.key from)))) ∙ window_past from to xs h.1

pub window_one : (from : List ℕ) (to : Option (List ℕ)) (x : Entry) → IsNotUnder x.key from → IsWithin to x.key → window from to (x ∷ []) ≡ x ∷ []
window_one from to x h w = ap (λ b. keep_if (not b && is_within to x.key) x []) (not_less x.key from h) ∙ ap (λ b. keep_if b x []) (within to w)
  where
    within : (to : Option (List ℕ)) → IsWithin to x.key → is_within to x.key ≡ true
    within None w = refl
    within (Some high) w = ap is_lt w

-- what is past a key that is past the range
pub past_on : (to : Option (List ℕ)) (from key : List ℕ) → IsPast to from → IsNotUnder key from → IsPast to key
past_on None from key h n = h
past_on (Some high) from key h n = not_under_trans high from key h n

-- a place in a list
pub record IsSplit {X : Type 0} (xs : List X) (i : ℕ) : Type 0 where
  pub mid : X
  pub back : List X
  pub is : xs ≡ take i xs ++ mid ∷ back
  pub more : take (i + 1) xs ≡ take i xs ++ mid ∷ []
  pub long : length (take i xs) ≡ i
  pub here : (d : X) → get_or xs i d ≡ mid

pub split_at : {X : Type 0} (xs : List X) (i : ℕ) → i < length xs → IsSplit xs i
split_at [] i lt = absurd (omega arith)
split_at (x ∷ xs) zero lt = record { mid = x; back = xs; is = refl; more = refl; long = refl; here = λ d. refl }
split_at (x ∷ xs) (suc i) lt =
    let r = split_at xs i (omega arith) in
    let e : suc i + 1 ≡ suc (i + 1) = omega arith in
    record {
      mid = r.mid;
      back = r.back;
      is = ap (λ zs. x ∷ zs) r.is;
      more = ap (λ n. take n (x ∷ xs)) e ∙ ap (λ zs. x ∷ zs) r.more;
      long = ap suc r.long;
      here = r.here;
    }

pub take_all : {X : Type 0} (xs : List X) (n : ℕ) → length xs ≤ n → take n xs ≡ xs
take_all [] zero le = refl
take_all [] (suc n) le = refl
take_all (x ∷ xs) zero le = absurd (omega arith)
take_all (x ∷ xs) (suc n) le = ap (λ zs. x ∷ zs) (take_all xs n (omega arith))

pub each_entry : (P : List ℕ → Type 0) (pairs : List Pair) → Each (λ (x : Pair). P x.key) pairs → Each (λ (x : Entry). P x.key) (map entry_of pairs)
each_entry P [] h = tt
each_entry P (x ∷ xs) h = (h.0, each_entry P xs h.1)

-- ---- a leaf

-- the pair at a place of a leaf
pub record IsHere (items : List Item) (pairs : List Pair) (from : List ℕ) (i : ℕ) (it : Item) : Type 0 where
  pub pair : Pair
  pub back : List Pair
  pub is : it ≡ item_of pair
  pub not_under : IsNotUnder pair.key from
  pub more : map entry_of (take (i + 1) pairs) ≡ map entry_of (take i pairs) ++ entry_of pair ∷ []
  pub whole : map entry_of pairs ≡ map entry_of (take i pairs) ++ entry_of pair ∷ map entry_of back
  pub over : Each (λ y. IsUnder pair.key y.key) back
  pub chained : (s : Store) → Each (HasChain s) pairs → HasChain s pair
  pub stands : (d : Pair) → get_or pairs i d ≡ pair

not_under_from : (from : List ℕ) (pairs : List Pair) (start i : ℕ) (d : Pair) → start ≤ i → i < length pairs → Rises (pair_keys pairs)
    → IsNotUnder (get_or pairs start d).key from
    → IsNotUnder (get_or pairs i d).key from
not_under_from from [] start i d le lt rise h = absurd (omega arith)
not_under_from from (x ∷ xs) zero zero d le lt rise h = h
not_under_from from (x ∷ xs) zero (suc i) d le lt rise h =
    λ u. h (under_trans x.key (get_or xs i d).key from
    (each_get (λ (y : Pair). IsUnder x.key y.key) xs i d (omega arith) (each_of_map (IsUnder x.key) (λ (y : Pair). y.key) xs rise.0)) u)
not_under_from from (x ∷ xs) (suc start) zero d le lt rise h = absurd (omega arith)
not_under_from from (x ∷ xs) (suc start) (suc i) d le lt rise h = not_under_from from xs start i d (omega arith) (omega arith) rise.1 h

below_or_not : (i n : ℕ) → (i < n) ⊎ (n ≤ i)
below_or_not i zero = inr (omega arith)
below_or_not zero (suc n) = inl (omega arith)
below_or_not (suc i) (suc n) = elim (below_or_not i n) [ inl lt ↦ inl (omega arith) | inr le ↦ inr (omega arith) ]

-- what stands before another
under_before : (pairs : List Pair) (i j : ℕ) (d : Pair) → i < j → j < length pairs → Rises (pair_keys pairs)
    → IsUnder (get_or pairs i d).key (get_or pairs j d).key
under_before [] i j d lt le rise = absurd (omega arith)
under_before (x ∷ xs) i zero d lt le rise = absurd (omega arith)
under_before (x ∷ xs) zero (suc j) d lt le rise =
    each_get (λ (y : Pair). IsUnder x.key y.key) xs j d (omega arith) (each_of_map (IsUnder x.key) (λ (y : Pair). y.key) xs rise.0)
under_before (x ∷ xs) (suc i) (suc j) d lt le rise = under_before xs i j d (omega arith) (omega arith) rise.1

map_get : (pairs : List Pair) (i : ℕ) (d : Pair) → i < length pairs → get_or (map item_of pairs) i (item_of d) ≡ item_of (get_or pairs i d)
map_get [] i d lt = absurd (omega arith)
map_get (x ∷ xs) zero d lt = refl
map_get (x ∷ xs) (suc i) d lt = map_get xs i d (omega arith)

-- what stands before the end of a range lies within it, and what stands there or behind is past it
module _ (to : Option (List ℕ)) (items : List Item) (pairs : List Pair) (at : ℕ) (e : items ≡ map item_of pairs) (rise : Rises (pair_keys pairs))
    (end : IsEndPlace items to at) (i : ℕ) (d : Pair) where
  stands : (k : ℕ) → k < length items → (get_or items k (item_of d)).key ≡ (get_or pairs k d).key
  stands k lt =
      ap (λ (x : Item). x.key) (ap (λ zs. get_or zs k (item_of d)) e ∙ map_get pairs k d (omega (arith, ap length e, long_map item_of pairs)))

  pub before_end : i < at → IsWithin to (get_or pairs i d).key
  before_end lt =
      let long : length items ≡ length pairs = ap length e ∙ long_map item_of pairs in
      let within : at ≤ length items = end.within in
      let last : IsWithin to (get_or pairs (at - 1) d).key =
      subst (IsWithin to) (stands (at - 1) (omega arith)) (end.below (at - 1) (item_of d) (omega arith)) in
      elim (eq-or-lt_of_le {n = i} {m = at - 1} (omega arith)) [
        | inl same ↦ subst (λ k. IsWithin to (get_or pairs k d).key) (sym same) last
        | inr less ↦ within_wider to _ _ last (under_before pairs i (at - 1) d less (omega arith) rise)
      ]

  pub from_end : at ≤ i → i < length pairs → IsPast to (get_or pairs i d).key
  from_end le lt =
      let long : length items ≡ length pairs = ap length e ∙ long_map item_of pairs in
      let first : IsPast to (get_or pairs at d).key = subst (IsPast to) (stands at (omega arith)) (end.above (item_of d) (omega arith)) in
      elim (eq-or-lt_of_le le) [
        | inl same ↦ subst (λ k. IsPast to (get_or pairs k d).key) same first
        | inr less ↦ past_on to _ _ first (not_both (get_or pairs at d).key (get_or pairs i d).key (under_before pairs at i d less lt rise))
      ]

module _ (from : List ℕ) (to : Option (List ℕ)) (items : List Item) (pairs : List Pair) (start : ℕ) (e : items ≡ map item_of pairs)
    (rise : Rises (pair_keys pairs)) (place : IsPlace items from start) where
  pub first_under : Each (λ (x : Entry). IsUnder x.key from) (map entry_of (take start pairs))
  first_under =
      let c = cut_at pairs start (omega (arith, place.within, ap length e, long_map item_of pairs)) in
      let place' : IsPlace (map item_of (c.front ++ c.back)) from (length c.front) =
      subst (λ n. IsPlace (map item_of (c.front ++ c.back)) from n) (sym c.place) (subst (λ zs. IsPlace zs from start) (e ∙ ap (map item_of) c.is) place) in
      let under : Each (λ (x : Pair). IsUnder x.key from) c.front = front_is_under from c.front c.back (subst (λ ps. Rises (pair_keys ps)) c.is rise) place' in
      subst (Each (λ (x : Entry). IsUnder x.key from))
      (sym (ap (λ ps. map entry_of (take start ps)) c.is ∙ ap (λ n. map entry_of (take n (c.front ++ c.back))) (sym c.place)
      ∙ ap (map entry_of) (take_here c.front c.back)))
      (each_entry (λ k. IsUnder k from) c.front under)
    where
      take_here : (xs ys : List Pair) → take (length xs) (xs ++ ys) ≡ xs
      take_here [] ys = refl
      take_here (x ∷ xs) ys = ap (λ zs. x ∷ zs) (take_here xs ys)

  pub first_none : window from to (map entry_of (take start pairs)) ≡ []
  first_none = window_under from to (map entry_of (take start pairs)) first_under

  pub here : (i : ℕ) → start ≤ i → i < length items → (it : Item) → ((d : Item) → it ≡ get_or items i d) → IsHere items pairs from i it
  here i le lt it at =
      let long : length items ≡ length pairs = ap length e ∙ long_map item_of pairs in
      let s = split_at pairs i (omega arith) in
      let low : IsNotUnder (get_or pairs start s.mid).key from =
      subst (λ (x : Item). IsNotUnder x.key from) (ap (λ zs. get_or zs start (item_of s.mid)) e ∙ map_get pairs start s.mid (omega arith))
      (place.above (item_of s.mid) (omega arith)) in
      record {
        pair = s.mid;
        back = s.back;
        is = at (item_of s.mid) ∙ ap (λ zs. get_or zs i (item_of s.mid)) e ∙ map_get pairs i s.mid (omega arith) ∙ ap item_of (s.here s.mid);
        not_under = subst (λ (x : Pair). IsNotUnder x.key from) (s.here s.mid) (not_under_from from pairs start i s.mid le (omega arith) rise low);
        more = ap (map entry_of) s.more ∙ map_append entry_of (take i pairs) (s.mid ∷ []);
        whole = ap (map entry_of) s.is ∙ map_append entry_of (take i pairs) (s.mid ∷ s.back);
        over = each_of_map (IsUnder s.mid.key) (λ (y : Pair). y.key) s.back
            ((rises_back (pair_keys (take i pairs)) (pair_keys (s.mid ∷ s.back))
            (subst Rises (ap pair_keys s.is ∙ map_append (λ (y : Pair). y.key) (take i pairs) (s.mid ∷ s.back)) rise)).0);
        chained = λ st h. (each_back (HasChain st) (take i pairs) (s.mid ∷ s.back) (subst (Each (HasChain st)) s.is h)).0;
        stands = s.here;
      }

  module _ (i : ℕ) (it : Item) (h : IsHere items pairs from i it) (all : List Entry) where
    pub goes_on : IsWithin to h.pair.key
        → (all ++ window from to (map entry_of (take i pairs))) ++ entry_of h.pair ∷ [] ≡ all ++ window from to (map entry_of (take (i + 1) pairs))
    goes_on w =
        append_assoc all (window from to (map entry_of (take i pairs))) (entry_of h.pair ∷ [])
        ∙ ap (λ zs. all ++ (window from to (map entry_of (take i pairs)) ++ zs)) (sym (window_one from to (entry_of h.pair) h.not_under w))
        ∙ ap (λ zs. all ++ zs) (sym (window_append from to (map entry_of (take i pairs)) (entry_of h.pair ∷ [])) ∙ ap (window from to) (sym h.more))

    pub ends_past : IsPast to h.pair.key → all ++ window from to (map entry_of (take i pairs)) ≡ all ++ window from to (map entry_of pairs)
    ends_past p =
        ap (λ zs. all ++ zs) (sym (append-nil (window from to (map entry_of (take i pairs))))
        ∙ ap (λ zs. window from to (map entry_of (take i pairs)) ++ zs)
        (sym (window_past from to (entry_of h.pair ∷ map entry_of h.back)
        (p, each_entry (IsPast to) h.back (each_map _ _ (λ y u. past_on to h.pair.key y.key p (not_both h.pair.key y.key u)) h.back h.over))))
        ∙ sym (window_append from to (map entry_of (take i pairs)) (entry_of h.pair ∷ map entry_of h.back)) ∙ ap (window from to) (sym h.whole))

  -- from the end of the range on nothing is left
  module _ (at : ℕ) (end : IsEndPlace items to at) (i : ℕ) (le : start ≤ i) (past : at ≤ i) (all : List Entry) where
    ends_at : i < length pairs → all ++ window from to (map entry_of (take i pairs)) ≡ all ++ window from to (map entry_of pairs)
    ends_at lt =
        let long : length items ≡ length pairs = ap length e ∙ long_map item_of pairs in
        let s = split_at pairs i lt in
        let h = here i le (omega arith) (item_of s.mid) (λ d. sym (get_or_default items i d (item_of s.mid) (omega arith)
        ∙ ap (λ zs. get_or zs i (item_of s.mid)) e ∙ map_get pairs i s.mid lt ∙ ap item_of (s.here s.mid))) in
        ends_past i (item_of s.mid) h all
        (subst (λ (x : Pair). IsPast to x.key) (h.stands s.mid) (from_end to items pairs at e rise end i s.mid past lt))

    pub all_taken : all ++ window from to (map entry_of (take i pairs)) ≡ all ++ window from to (map entry_of pairs)
    all_taken = elim (below_or_not i (length pairs)) [
      | inl lt ↦ ends_at lt
      | inr not ↦ ap (λ ps. all ++ window from to (map entry_of ps)) (take_all pairs i not)
    ]

pub scan_failed : {X : Type 0} (old mid new : Store) (so : Type 0) (r : Result X TreeFault) (e : TreeFault) → Frame old mid → IsErrAnd r (λ f. f ≡ e)
    → HasCause mid new e → IsAnswer old new (λ done. so) r
scan_failed old mid new so (Ok v) e grows h cause = absurd h
scan_failed old mid new so (Err f) e grows h cause = subst (HasCause old new) (sym h) (cause_later old mid new e grows cause)

-- ---- a branch

pub entries_append : (d : ℕ) (xs ys : List (Subtree (Body d))) → entries_of (suc d) (xs ++ ys) ≡ entries_of (suc d) xs ++ entries_of (suc d) ys
entries_append d xs ys =
    ap (map entry_of) (flat_append (λ (w : Subtree (Body d)). pairs_of d w.body) xs ys) ∙ map_append entry_of (pairs_of (suc d) xs) (pairs_of (suc d) ys)

-- what stands from a child on isn't below its low bound
from_child : (d : ℕ) (low : List ℕ) (high : Option (List ℕ)) (front : List (Subtree (Body d))) (w : Subtree (Body d)) (back : List (Subtree (Body d)))
    → IsSound (suc d) low high (front ++ w ∷ back)
    → Each (λ (x : Pair). IsNotUnder x.key (low_of low front w.key)) (pairs_of (suc d) (w ∷ back))
from_child d low high front w back h =
    let Lies : List ℕ → Option (List ℕ) → Body d → Type 0 = λ from to body. IsWhole d body × IsSound d from to body in
    let from : List ℕ = low_of low front w.key in
    let w' : Subtree (Body d) = record { key = from; page = w.page; body = w.body } in
    let r : Rises (subtree_keys (with_low low front) ++ from ∷ subtree_keys back) = subst Rises (keys_around low front w back) h.1 in
    let i : Each (IsWithin high) (subtree_keys (with_low low front) ++ from ∷ subtree_keys back) = subst (Each (IsWithin high)) (keys_around low front w back)
    h.2 in
    each_map _ _ (λ x b. b.0) _
    (fan_between Lies (pairs_of d) (λ from to body s. pairs_between d from to body s.1) high w' back
    (fans_around Lies (pairs_of d) (λ from to body s. pairs_between d from to body s.1) high low front w back h.0).1
    (rises_back (subtree_keys (with_low low front)) _ r) (each_back _ (subtree_keys (with_low low front)) _ i))

-- a child at a place of a branch
pub record IsChild (s : Store) (level d : ℕ) (subtrees : List (Subtree (Body d))) (i child : ℕ) (from : List ℕ) (to : Option (List ℕ)) : Type 0 where
  pub body : Body d
  pub others : List Entry
  pub part : IsPart s child (level + 1) d from to body
  pub more : entries_of (suc d) (take (i + 1) subtrees) ≡ entries_of (suc d) (take i subtrees) ++ entries_of d body
  pub whole : entries_of (suc d) subtrees ≡ entries_of (suc d) (take i subtrees) ++ (entries_of d body ++ others)
  pub not_under : Each (λ (x : Entry). IsNotUnder x.key from) (entries_of d body ++ others)

module _ (s : Store) (page level d : ℕ) (low : List ℕ) (high : Option (List ℕ)) (subtrees : List (Subtree (Body d))) (pivots : List Pivot)
    (e : pivots ≡ map pivot_of subtrees)
    (part : IsPart s page level (suc d) low high subtrees) where
  pub child_here : (i child : ℕ) (from : List ℕ) (to : Option (List ℕ)) → i < length pivots → AreBounds low high pivots i from to
      → ((a : Pivot) → (get_or pivots i a).child ≡ child) → IsChild s level d subtrees i child from to
  child_here i child from to lt bounds is =
      let long : length pivots ≡ length subtrees = ap length e ∙ long_map pivot_of subtrees in
      let c = split_at subtrees i (omega arith) in
      let front : List (Subtree (Body d)) = take i subtrees in
      let pivots_are : pivots ≡ map pivot_of (front ++ c.mid ∷ c.back) = e ∙ ap (map pivot_of) c.is in
      let bounds' : AreBounds low high (map pivot_of (front ++ c.mid ∷ c.back)) (length front) from to =
      subst (λ n. AreBounds low high (map pivot_of (front ++ c.mid ∷ c.back)) n from to) (sym c.long)
      (subst (λ zs. AreBounds low high zs i from to) pivots_are bounds) in
      let part' : IsPart s page level (suc d) low high (front ++ c.mid ∷ c.back) =
      subst (λ (ts : List (Subtree (Body d))). IsPart s page level (suc d) low high ts) c.is part in
      let page_is : c.mid.page ≡ child =
      sym (ap (λ (a : Pivot). a.child) (place_here front c.mid c.back (pivot_of c.mid)))
      ∙ ap (λ n. (get_or (map pivot_of (front ++ c.mid ∷ c.back)) n (pivot_of c.mid)).child) c.long
      ∙ ap (λ zs. (get_or zs i (pivot_of c.mid)).child) (sym pivots_are) ∙ is (pivot_of c.mid) in
      let from_same : from ≡ low_of low front c.mid.key = from_is low high front c.mid c.back from to bounds' in
      let rest_is : entries_of (suc d) (c.mid ∷ c.back) ≡ entries_of d c.mid.body ++ entries_of (suc d) c.back =
      map_append entry_of (pairs_of d c.mid.body) (pairs_of (suc d) c.back) in
      record {
        body = c.mid.body;
        others = entries_of (suc d) c.back;
        part = subst (λ p. IsPart s p (level + 1) d from to c.mid.body) page_is (child_part s page level d low high front c.mid c.back from to part' bounds');
        more = ap (entries_of (suc d)) c.more ∙ entries_append d front (c.mid ∷ [])
            ∙ ap (λ es. entries_of (suc d) front ++ es) (ap (map entry_of) (append-nil (pairs_of d c.mid.body)));
        whole = ap (entries_of (suc d)) c.is ∙ entries_append d front (c.mid ∷ c.back) ∙ ap (λ es. entries_of (suc d) front ++ es) rest_is;
        not_under = subst (Each (λ (x : Entry). IsNotUnder x.key from)) rest_is (each_entry (λ k. IsNotUnder k from) (pairs_of (suc d) (c.mid ∷ c.back))
            (subst (λ f. Each (λ (x : Pair). IsNotUnder x.key f) (pairs_of (suc d) (c.mid ∷ c.back))) (sym from_same)
            (from_child d low high front c.mid c.back part'.sound)));
      }

  pub before_under : (from : List ℕ) (start : ℕ) → IsChildPlace pivots from start
      → Each (λ (x : Entry). IsUnder x.key from) (entries_of (suc d) (take start subtrees))
  before_under from start place =
      let long : length pivots ≡ length subtrees = ap length e ∙ long_map pivot_of subtrees in
      let c = split_at subtrees start (omega (arith, place.within)) in
      let front : List (Subtree (Body d)) = take start subtrees in
      let pivots_are : pivots ≡ map pivot_of (front ++ c.mid ∷ c.back) = e ∙ ap (map pivot_of) c.is in
      let place' : IsChildPlace (map pivot_of (front ++ c.mid ∷ c.back)) from (length front) =
      subst (λ n. IsChildPlace (map pivot_of (front ++ c.mid ∷ c.back)) from n) (sym c.long) (subst (λ zs. IsChildPlace zs from start) pivots_are place) in
      go c.mid c.back front (subst (IsSound (suc d) low high) c.is part.sound) place'
    where
      go : (w : Subtree (Body d)) (back : List (Subtree (Body d))) (front : List (Subtree (Body d))) → IsSound (suc d) low high (front ++ w ∷ back)
          → IsChildPlace (map pivot_of (front ++ w ∷ back)) from (length front)
          → Each (λ (x : Entry). IsUnder x.key from) (entries_of (suc d) front)
      go w back [] h p = tt
      go w back (f ∷ fs) h p =
          let a = around_child d low high (f ∷ fs) w back h in
          let low_is : IsNotUnder from w.key =
          subst (λ (x : Pivot). IsNotUnder from x.key) (place_here (f ∷ fs) w back (pivot_of w)) (p.below (pivot_of w) (omega arith)) in
          each_entry (λ k. IsUnder k from) (pairs_of (suc d) (f ∷ fs))
          (each_map _ _ (λ x u. under_then_up_to x.key w.key from u low_is) (pairs_of (suc d) (f ∷ fs)) a.before)

  pub none_before : (from : List ℕ) (to : Option (List ℕ)) (start : ℕ) → IsChildPlace pivots from start
      → window from to (entries_of (suc d) (take start subtrees)) ≡ []
  none_before from to start place = window_under from to (entries_of (suc d) (take start subtrees)) (before_under from start place)

module _ (s : Store) (level d : ℕ) (subtrees : List (Subtree (Body d))) (i child : ℕ) (from to_key : List ℕ) (high to : Option (List ℕ))
    (h : IsChild s level d subtrees i child from high) (all : List Entry) where
  pub child_on : (all ++ window to_key to (entries_of (suc d) (take i subtrees))) ++ window to_key to (entries_of d h.body) ≡ all
      ++ window to_key to (entries_of (suc d) (take (i + 1) subtrees))
  child_on =
      append_assoc all (window to_key to (entries_of (suc d) (take i subtrees))) (window to_key to (entries_of d h.body))
      ∙ ap (λ zs. all ++ zs) (sym (window_append to_key to (entries_of (suc d) (take i subtrees)) (entries_of d h.body)) ∙ ap (window to_key to) (sym h.more))

  pub child_past : IsPast to from → all ++ window to_key to (entries_of (suc d) (take i subtrees)) ≡ all ++ window to_key to (entries_of (suc d) subtrees)
  child_past p =
      ap (λ zs. all ++ zs) (sym (append-nil (window to_key to (entries_of (suc d) (take i subtrees))))
      ∙ ap (λ zs. window to_key to (entries_of (suc d) (take i subtrees)) ++ zs)
      (sym (window_past to_key to (entries_of d h.body ++ h.others)
      (each_map _ _ (λ y u. past_on to from y.key p u) (entries_of d h.body ++ h.others) h.not_under)))
      ∙ sym (window_append to_key to (entries_of (suc d) (take i subtrees)) (entries_of d h.body ++ h.others)) ∙ ap (window to_key to) (sym h.whole))

  pub child_rest : (all ++ window to_key to (entries_of (suc d) (take i subtrees))) ++ window to_key to (entries_of d h.body ++ h.others) ≡ all
      ++ window to_key to (entries_of (suc d) subtrees)
  child_rest =
      append_assoc all (window to_key to (entries_of (suc d) (take i subtrees))) (window to_key to (entries_of d h.body ++ h.others))
      ∙ ap (λ zs. all ++ zs)
      (sym (window_append to_key to (entries_of (suc d) (take i subtrees)) (entries_of d h.body ++ h.others)) ∙ ap (window to_key to) (sym h.whole))

-- a batch before any entry
abbrev pub filling : Global → ℕ → Vec KeptEntry Global → Filling
filling alloc limit entries = record { alloc = alloc; limit = limit; batch = record { entries = entries; next = None } }

pub fills_none : (alloc : Global) (limit : ℕ) (entries : Vec KeptEntry Global) → entries.items ≡ []
    → Fills (filling alloc limit entries) [] (filling alloc limit entries)
fills_none alloc limit entries e = (refl, subst (λ es. IsBatch limit [] (map entry_in es) None) (sym e) (refl, omega arith))

pub filled : (start now : Filling) (all : List Entry) → Fills start all now → HoldsBatch start.limit all now.batch
filled start now all h = subst (λ n. HoldsBatch n all now.batch) h.0 h.1

-- ---- the program's steps below a branch

module _ (old mid : Store) (page level : ℕ) (low : List ℕ) (high : Option (List ℕ)) (pivots : List Pivot) (holds : old.page page ≡ branch pivots)
    (grows : Frame old mid) where
  abbrev pub AtBranch : ((d : ℕ) → Body d → Type 0) → Type 0
  AtBranch C = (d : ℕ) (subtrees : Body (suc d)) → pivots ≡ map pivot_of subtrees → IsPart mid page level (suc d) low high subtrees → C (suc d) subtrees

  pub at_branch : (C : (d : ℕ) → Body d → Type 0) → AtBranch C → (d : ℕ) (body : Body d) → IsPart old page level d low high body → C d body
  at_branch C says d body part =
      open_branch (λ d body. IsPart old page level d low high body → C d body) pivots
      (λ d subtrees e p. says d subtrees e (part_kept old mid grows page level (suc d) low high subtrees p)) d body (sym holds ∙ part.at.holds) part

pub scan_leaf_below : {X : Type 0} (old mid new : Store) (page level : ℕ) (low : List ℕ) (high : Option (List ℕ)) (items : List Item) (so : List Entry
    → Type 0) (r : Result X TreeFault) → Frame old mid
    → old.page page ≡ leaf items
    → ((pairs : List Pair) → items ≡ map item_of pairs → Rises (pair_keys pairs) → Shows mid zero pairs → IsAnswer mid new (λ done. so (map entry_of pairs)) r)
    → (d : ℕ) (body : Body d) → IsPart old page level d low high body → IsAnswer old new (λ done. so (entries_of d body)) r
scan_leaf_below {X = X} old mid new page level low high items so r grows holds says d body part =
    open_leaf (λ d body. IsPart old page level d low high body → IsAnswer old new (λ done. so (entries_of d body)) r) items
    (λ pairs e p. later r (so (map entry_of pairs)) (says pairs e p.sound.0 (shows_kept old mid grows zero pairs p.shown))) d body
    (sym holds ∙ part.at.holds) part
  where
    later : (r : Result X TreeFault) (so : Type 0) → IsAnswer mid new (λ done. so) r → IsAnswer old new (λ done. so) r
    later (Ok v) so h = h
    later (Err e) so h = cause_later old mid new e grows h
