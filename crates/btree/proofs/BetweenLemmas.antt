-- A branch with other children in place of some is one again.
use Rattle.std.proofs.Common.{◌≡◌, ℕ, zero, suc, ◌+◌, ◌-◌, ◌<◌, ◌≤◌, take, drop, get_or, true, false, Bool, List, [], ◌∷◌, ◌++◌, length, map, Option, None}
use Rattle.std.proofs.Common.{Some, refl, sym}
use Rattle.std.proofs.Common.{ap, ◌∙◌}
use Rattle.std.proofs.Common.{subst, arith}
use Rattle.std.specs.Prelude.{◌&&◌, MatchBool}
use Rattle.std.specs.List.{AllByRecursion}
use Rattle.std.specs.Ordering.{is_lt}
use Rattle.page.specs.ChildPage.{exchanged}
use Rattle.page.specs.Content.{Pivot, IsPivot, IsBranch, pivot_keys, pivot_size, pivots_size, is_below, rise, rise_above, total}
use Rattle.tree_model.specs.Keys.{IsPast, IsUnder, IsWithin}
use Rattle.btree.specs.Loose.{GoBehind, Slot, pivot_slot, slots_size}
use Rattle.btree.proofs.FewParts.{pivots_total}
use Rattle.btree.proofs.InPageLemmas.{both_true}
use Rattle.tree_model.proofs.ListLemmas.{long_append, long_map, map_append}
use Rattle.btree.proofs.LooseLemmas.{take_drop}
use Rattle.btree.proofs.PartLemmas.{behind_pivots}

-- ---- keys that rise

abbrev last_or : List ℕ → List (List ℕ) → List ℕ
last_or k [] = k
last_or k (x ∷ xs) = last_or x xs

rise_take : (k : List ℕ) (n : ℕ) (xs : List (List ℕ)) → rise_above k xs ≡ true → rise_above k (take n xs) ≡ true
rise_take k zero xs h = refl
rise_take k (suc n) [] h = refl
rise_take k (suc n) (x ∷ xs) h =
    let b = both_true (is_below k x) (rise_above x xs) h in
    ap (λ (o : Bool). o && rise_above x (take n xs)) b.0 ∙ rise_take x n xs b.1

above_rise : (k : List ℕ) (xs : List (List ℕ)) → rise_above k xs ≡ true → rise xs ≡ true
above_rise k [] h = refl
above_rise k (x ∷ xs) h = (both_true (is_below k x) (rise_above x xs) h).1

rise_drop : (n : ℕ) (xs : List (List ℕ)) → rise xs ≡ true → rise (drop n xs) ≡ true
rise_drop zero xs h = h
rise_drop (suc n) [] h = refl
rise_drop (suc n) (x ∷ xs) h = rise_drop n xs (above_rise x xs h)

rise_on : (k : List ℕ) (xs ys : List (List ℕ)) → rise_above k xs ≡ true → rise_above (last_or k xs) ys ≡ true → rise_above k (xs ++ ys) ≡ true
rise_on k [] ys h g = g
rise_on k (x ∷ xs) ys h g =
    let b = both_true (is_below k x) (rise_above x xs) h in
    ap (λ (o : Bool). o && rise_above x (xs ++ ys)) b.0 ∙ rise_on x xs ys b.1 g

above_first : (k : List ℕ) (xs : List (List ℕ)) → rise xs ≡ true → ((x : List ℕ) (rest : List (List ℕ)) → xs ≡ x ∷ rest → IsUnder k x)
    → rise_above k xs ≡ true
above_first k [] h under = refl
above_first k (x ∷ xs) h under = ap (λ o. is_lt o && rise_above x xs) (under x xs refl) ∙ h

-- the last key of the first children, and of all of them
last_taken : (key : List ℕ) (pivots : List Pivot) (n : ℕ) (d : Pivot) → n < length pivots
    → last_or key (pivot_keys (take (suc n) pivots)) ≡ (get_or pivots n d).key
last_taken key [] n d lt = absurd (omega arith)
last_taken key (a ∷ pivots) zero d lt = refl
last_taken key (a ∷ pivots) (suc n) d lt = last_taken a.key pivots n d (omega arith)

last_of : (key : List ℕ) (pivots : List Pivot) (n : ℕ) (s : Slot) → n + 1 ≡ length pivots
    → last_or key (pivot_keys pivots) ≡ (get_or (map pivot_slot pivots) n s).key
last_of key [] n s is = absurd (omega arith)
last_of key (a ∷ []) zero s is = refl
last_of key (a ∷ b ∷ pivots) zero s is = absurd (omega arith)
last_of key (a ∷ pivots) (suc n) s is = last_of a.key pivots n s (omega arith)

first_dropped : (pivots : List Pivot) (n : ℕ) (d : Pivot) (x : List ℕ) (rest : List (List ℕ)) → pivot_keys (drop n pivots) ≡ x ∷ rest → (n < length pivots)
    × ((get_or pivots n d).key ≡ x)
first_dropped [] zero d x rest is = cc
first_dropped [] (suc n) d x rest is = cc
first_dropped (a ∷ pivots) zero d x rest is = (omega arith, ap (λ (l : List (List ℕ)). get_or l 0 x) is)
first_dropped (a ∷ pivots) (suc n) d x rest is = let r = first_dropped pivots n d x rest is in (omega (arith, r.0), r.1)

keys_drop : (n : ℕ) (pivots : List Pivot) → pivot_keys (drop n pivots) ≡ drop n (pivot_keys pivots)
keys_drop zero pivots = refl
keys_drop (suc n) [] = refl
keys_drop (suc n) (a ∷ pivots) = keys_drop n pivots

keys_take : (n : ℕ) (pivots : List Pivot) → pivot_keys (take n pivots) ≡ take n (pivot_keys pivots)
keys_take zero pivots = refl
keys_take (suc n) [] = refl
keys_take (suc n) (a ∷ pivots) = ap (λ (l : List (List ℕ)). a.key ∷ l) (keys_take n pivots)

-- a key that is within a bound
pub within_bound : (b : Bool) (high : Option (List ℕ)) (key next : List ℕ) → b ≡ true → MatchBool b (IsWithin high key) (IsPast high key) → high ≡ Some next
    → IsUnder key next
within_bound true high key next is h same = subst (λ (o : Option (List ℕ)). IsWithin o key) same h
within_bound false high key next is h same = cc

-- ---- children

each_both : (xs ys : List Pivot) → AllByRecursion IsPivot xs → AllByRecursion IsPivot ys → AllByRecursion IsPivot (xs ++ ys)
each_both [] ys h g = g
each_both (x ∷ xs) ys h g = (h.0, each_both xs ys h.1 g)

each_take : (n : ℕ) (xs : List Pivot) → AllByRecursion IsPivot xs → AllByRecursion IsPivot (take n xs)
each_take zero xs h = tt
each_take (suc n) [] h = tt
each_take (suc n) (x ∷ xs) h = (h.0, each_take n xs h.1)

each_drop : (n : ℕ) (xs : List Pivot) → AllByRecursion IsPivot xs → AllByRecursion IsPivot (drop n xs)
each_drop zero xs h = h
each_drop (suc n) [] h = tt
each_drop (suc n) (x ∷ xs) h = each_drop n xs h.1

total_both : (xs ys : List Pivot) → total pivot_size (xs ++ ys) ≡ total pivot_size xs + total pivot_size ys
total_both [] ys = omega arith
total_both (x ∷ xs) ys = omega (arith, total_both xs ys)

over_bound : (k : List ℕ) (new : List Pivot) (s : Slot) → GoBehind None 0 (map pivot_slot new) → 0 < length new
    → IsUnder k (get_or (map pivot_slot new) 0 s).key → GoBehind (Some k) 0 (map pivot_slot new)
over_bound k [] s go some under = absurd (omega arith)
over_bound k (x ∷ xs) s go some under = (go.0, under, go.2, go.3)

exchanged_sound : (f t : ℕ) (a : Pivot) (pivots new : List Pivot) (s : Slot) (d : Pivot) → IsBranch (a ∷ pivots) → f ≤ length pivots
    → GoBehind None 0 (map pivot_slot new) → 0 < length new
    → IsUnder (get_or (a ∷ pivots) f d).key (get_or (map pivot_slot new) 0 s).key
    → (t < length pivots → IsUnder (get_or (map pivot_slot new) (length new - 1) s).key (get_or pivots t d).key)
    → 4 + total pivot_size (take f pivots) + total pivot_size new + total pivot_size (drop t pivots) ≤ 4080
    → IsBranch (a ∷ (take f pivots ++ (new ++ drop t pivots)))
exchanged_sound f t a pivots new s d sound within go some under over room =
    let k : List ℕ = (get_or (a ∷ pivots) f d).key in
    let n = behind_pivots k 0 new (omega arith) (over_bound k new s go some under) in
    let keys : pivot_keys (take f pivots ++ (new ++ drop t pivots)) ≡ pivot_keys (take f pivots) ++ (pivot_keys new ++ pivot_keys (drop t pivots)) =
    map_append (λ (x : Pivot). x.key) (take f pivots) (new ++ drop t pivots)
    ∙ ap (λ (l : List (List ℕ)). pivot_keys (take f pivots) ++ l) (map_append (λ (x : Pivot). x.key) new (drop t pivots)) in
    let front_last : last_or a.key (pivot_keys (take f pivots)) ≡ k = last_taken a.key (a ∷ pivots) f d (omega arith) in
    let new_last : last_or k (pivot_keys new) ≡ (get_or (map pivot_slot new) (length new - 1) s).key = last_of k new (length new - 1) s (omega arith) in
    let back : rise (pivot_keys (drop t pivots)) ≡ true =
    ap rise (keys_drop t pivots) ∙ rise_drop t (pivot_keys pivots) (above_rise a.key (pivot_keys pivots) sound.ascending) in
    let back_above : rise_above (last_or k (pivot_keys new)) (pivot_keys (drop t pivots)) ≡ true =
    above_first (last_or k (pivot_keys new)) (pivot_keys (drop t pivots)) back
    (λ x rest is. let r = first_dropped pivots t d x rest is in
    subst (λ z. IsUnder z x) (sym new_last) (subst (IsUnder (get_or (map pivot_slot new) (length new - 1) s).key) r.1 (over r.0))) in
    let new_above : rise_above k (pivot_keys new ++ pivot_keys (drop t pivots)) ≡ true = rise_on k (pivot_keys new) (pivot_keys (drop t pivots)) n.1
    back_above in
    let front : rise_above a.key (pivot_keys (take f pivots)) ≡ true =
    ap (rise_above a.key) (keys_take f pivots) ∙ rise_take a.key f (pivot_keys pivots) sound.ascending in
    record {
      some = omega (arith, long_append (take f pivots) (new ++ drop t pivots), long_append new (drop t pivots));
      bare = sound.bare;
      each = (
        sound.each.0,
        each_both (take f pivots) (new ++ drop t pivots) (each_take f pivots sound.each.1)
            (each_both new (drop t pivots) n.0 (each_drop t pivots sound.each.1)),
      );
      ascending = ap (rise_above a.key) keys
          ∙ rise_on a.key (pivot_keys (take f pivots)) (pivot_keys new ++ pivot_keys (drop t pivots)) front
          (ap (λ z. rise_above z (pivot_keys new ++ pivot_keys (drop t pivots))) front_last ∙ new_above);
      room = omega (arith, room, total_both (take f pivots) (new ++ drop t pivots), total_both new (drop t pivots));
    }

parts_total : (n : ℕ) (pivots : List Pivot) → total pivot_size (take n pivots) + total pivot_size (drop n pivots) ≡ total pivot_size pivots
parts_total n pivots = omega (arith, total_both (take n pivots) (drop n pivots), ap (total pivot_size) (take_drop n pivots))

pub between_sound : (from to : ℕ) (pivots new : List Pivot) (s : Slot) (d : Pivot) → IsBranch pivots → 0 < from → from ≤ to → to ≤ length pivots
    → GoBehind None 0 (map pivot_slot new) → 0 < length new
    → IsUnder (get_or pivots (from - 1) d).key (get_or (map pivot_slot new) 0 s).key
    → (to < length pivots → IsUnder (get_or (map pivot_slot new) (length new - 1) s).key (get_or pivots to d).key)
    → pivots_size (take from pivots) + total pivot_size new + (pivots_size pivots - pivots_size (take to pivots)) ≤ 4080
    → IsBranch (exchanged from to new pivots)
between_sound zero to pivots new s d sound some order within go more under over room = absurd (omega arith)
between_sound (suc f) zero pivots new s d sound some order within go more under over room = absurd (omega arith)
between_sound (suc f) (suc t) [] new s d sound some order within go more under over room = absurd (omega arith)
between_sound (suc f) (suc t) (a ∷ pivots) new s d sound some order within go more under over room =
    let less : suc f - 1 ≡ f = omega arith in
    exchanged_sound f t a pivots new s d sound (omega arith) go more
    (subst (λ n. IsUnder (get_or (a ∷ pivots) n d).key (get_or (map pivot_slot new) 0 s).key) less under) (λ lt. over (omega arith))
    (omega (arith, room, parts_total t pivots))

some_size : (ss : List Slot) → 0 < length ss → 0 < slots_size ss
some_size [] some = absurd (omega arith)
some_size (s ∷ ss) some = omega arith

-- the same of children out of pages
pub room_sound : (from to : ℕ) (pivots new : List Pivot) (ss : List Slot) (n start stop size : ℕ) (s : Slot) (d : Pivot) → IsBranch pivots → 0 < from
    → from ≤ to → to ≤ length pivots → ss ≡ map pivot_slot new → n ≡ length ss → GoBehind None 0 ss → 0 < n
    → IsUnder (get_or pivots (from - 1) d).key (get_or ss 0 s).key → (to < length pivots → IsUnder (get_or ss (n - 1) s).key (get_or pivots to d).key)
    → start ≡ pivots_size (take from pivots) → stop ≡ pivots_size (take to pivots) → size ≡ pivots_size pivots
    → slots_size ss ≤ 4080 - (start + (size - stop)) → IsBranch (exchanged from to new pivots)
room_sound from to pivots new ss n start stop size s d sound some order within is long go more under over start_is stop_is size_is fit =
    let count : n ≡ length new = omega (arith, long, ap length is, long_map pivot_slot new) in
    between_sound from to pivots new s d sound some order within (subst (GoBehind None 0) is go) (omega (arith, count))
    (subst (λ (l : List Slot). IsUnder (get_or pivots (from - 1) d).key (get_or l 0 s).key) is under)
    (λ lt. subst (λ k. IsUnder (get_or (map pivot_slot new) (k - 1) s).key (get_or pivots to d).key) count
    (subst (λ (l : List Slot). IsUnder (get_or l (n - 1) s).key (get_or pivots to d).key) is (over lt)))
    (omega (arith, fit, start_is, stop_is, size_is, some_size ss (omega (arith, long)), ap slots_size is, pivots_total new))
