-- Children in order: what lies where, and what is found.
use Rattle.std.proofs.Common.{if◌then◌else◌, ◌≡◌, ℕ, zero, suc, List, [], ◌∷◌, ◌++◌, Option, Some, None, true, false, refl, ap, subst}
use Rattle.std.specs.Ordering.{is_eq}
use Rattle.std.specs.List.{flat_map}
use Rattle.tree_model.specs.Keys.{Pair, Each, Rises, IsUnder, IsWithin, IsPast, IsBetween, key_cmp, find}
use Rattle.tree_model.specs.Tree.{Subtree, Body, IsFan, high_of, with_low, subtree_keys, pairs_of, IsSound, IsWhole}
use Rattle.tree_model.proofs.KeyLemmas.{under_trans, within_wider}
use Rattle.tree_model.proofs.ListLemmas.{each_append, each_back, each_map, each_of_map, map_append, rises_front, rises_back, rises_across}

-- ---- what is found in a part

pub find_skip : (key : List ℕ) (xs ys : List Pair) → Each (λ x. is_eq (key_cmp x.key key) ≡ false) xs → find key (xs ++ ys) ≡ find key ys
find_skip key [] ys h = refl
find_skip key (x ∷ xs) ys h = rw (h.0) (find_skip key xs ys h.1)

pub find_none : (key : List ℕ) (xs : List Pair) → Each (λ x. is_eq (key_cmp x.key key) ≡ false) xs → find key xs ≡ None
find_none key [] h = refl
find_none key (x ∷ xs) h = rw (h.0) (find_none key xs h.1)

pub find_stop : (key : List ℕ) (xs ys : List Pair) → Each (λ x. is_eq (key_cmp x.key key) ≡ false) ys → find key (xs ++ ys) ≡ find key xs
find_stop key [] ys h = find_none key ys h
find_stop key (x ∷ xs) ys h =
    elim (is_eq (key_cmp x.key key)) as (λ b. (if b then Some x else find key (xs ++ ys)) ≡ (if b then Some x else find key xs))
    [ true ↦ refl | false ↦ find_stop key xs ys h ]

-- ---- fans

module _ {B : Type 0} (Lies : List ℕ → Option (List ℕ) → B → Type 0) where
  pub fan_front : (high : Option (List ℕ)) (xs ys : List (Subtree B)) → IsFan Lies high (xs ++ ys) → IsFan Lies (high_of high ys) xs
  fan_front high [] ys h = tt
  fan_front high (x ∷ []) ys h = (h.0, tt)
  fan_front high (x ∷ y ∷ xs) ys h = (h.0, fan_front high (y ∷ xs) ys h.1)

  pub fan_back : (high : Option (List ℕ)) (xs ys : List (Subtree B)) → IsFan Lies high (xs ++ ys) → IsFan Lies high ys
  fan_back high [] ys h = h
  fan_back high (x ∷ xs) ys h = fan_back high xs ys h.1

  pub fan_append : (high : Option (List ℕ)) (xs ys : List (Subtree B)) → IsFan Lies (high_of high ys) xs → IsFan Lies high ys → IsFan Lies high (xs ++ ys)
  fan_append high [] ys h g = g
  fan_append high (x ∷ []) ys h g = (h.0, g)
  fan_append high (x ∷ y ∷ xs) ys h g = (h.0, fan_append high (y ∷ xs) ys h.1 g)

  -- a fan's pairs lie from its first key to its high bound, if each child's lie so
  pub fan_between : (pairs : B → List Pair)
      → ((low : List ℕ) (high : Option (List ℕ)) (body : B) → Lies low high body → Each (λ x. IsBetween low high x.key) (pairs body))
      → (high : Option (List ℕ)) (w : Subtree B) (ws : List (Subtree B)) → IsFan Lies high (w ∷ ws) → Rises (subtree_keys (w ∷ ws))
      → Each (IsWithin high) (subtree_keys (w ∷ ws))
      → Each (λ x. IsBetween w.key high x.key) (flat_map (λ w. pairs w.body) (w ∷ ws))
  fan_between pairs sub high w [] fan rise within = each_append _ (pairs w.body) [] (sub w.key high w.body fan.0) tt
  fan_between pairs sub high w (v ∷ ws) fan rise within =
      each_append _ (pairs w.body) _
      (each_map _ _ (λ x b. (b.0, within_wider high v.key x.key within.1.0 b.1)) (pairs w.body) (sub w.key (Some v.key) w.body fan.0))
      (each_map _ _ (λ x b. (λ u. b.0 (under_trans x.key w.key v.key u rise.0.0), b.1)) _ (fan_between pairs sub high v ws fan.1 rise.1 within.1))

-- the low bound of the child behind these
abbrev pub low_of : {B : Type 0} → List ℕ → List (Subtree B) → List ℕ → List ℕ
low_of low [] key = low
low_of low (f ∷ fs) key = key

pub keys_around : {B : Type 0} (low : List ℕ) (front : List (Subtree B)) (w : Subtree B) (back : List (Subtree B))
    → subtree_keys (with_low low (front ++ w ∷ back)) ≡ subtree_keys (with_low low front) ++ low_of low front w.key ∷ subtree_keys back
keys_around low [] w back = refl
keys_around low (f ∷ fs) w back = ap (λ ks. low ∷ ks) (map_append (λ w. w.key) fs (w ∷ back))

-- what lies before one child, in it and behind it
pub record IsAround {B : Type 0} (Lies : List ℕ → Option (List ℕ) → B → Type 0) (pairs : B → List Pair) (low : List ℕ) (high : Option (List ℕ))
    (front : List (Subtree B)) (w : Subtree B) (back : List (Subtree B)) (from : List ℕ) (to : Option (List ℕ)) : Type 0 where
  pub fan_front : IsFan Lies (Some from) (with_low low front)
  pub mid : Lies from to w.body
  pub fan_back : IsFan Lies high back
  pub before : Each (λ x. IsUnder x.key from) (flat_map (λ w. pairs w.body) front)
  pub after : Each (λ x. IsPast to x.key) (flat_map (λ w. pairs w.body) back)

module _ {B : Type 0} (Lies : List ℕ → Option (List ℕ) → B → Type 0) (pairs : B → List Pair)
    (sub : (low : List ℕ) (high : Option (List ℕ)) (body : B) → Lies low high body → Each (λ x. IsBetween low high x.key) (pairs body)) where
  front_under : (from low : List ℕ) (front : List (Subtree B)) → IsFan Lies (Some from) (with_low low front) → Rises (subtree_keys (with_low low front))
      → Each (IsWithin (Some from)) (subtree_keys (with_low low front)) → Each (λ x. IsUnder x.key from) (flat_map (λ w. pairs w.body) front)
  front_under from low [] fan rise within = tt
  front_under from low (f ∷ fs) fan rise within =
      each_map _ _ (λ x b. b.1) _ (fan_between Lies pairs sub (Some from) (record { key = low; page = f.page; body = f.body }) fs fan rise within)

  back_past : (high : Option (List ℕ)) (back : List (Subtree B)) → IsFan Lies high back → Rises (subtree_keys back) → Each (IsWithin high) (subtree_keys back)
      → Each (λ x. IsPast (high_of high back) x.key) (flat_map (λ w. pairs w.body) back)
  back_past high [] fan rise within = tt
  back_past high (v ∷ vs) fan rise within = each_map _ _ (λ x b. b.0) _ (fan_between Lies pairs sub high v vs fan rise within)

  pub fans_around : (high : Option (List ℕ)) (low : List ℕ) (front : List (Subtree B)) (w : Subtree B) (back : List (Subtree B))
      → IsFan Lies high (with_low low (front ++ w ∷ back))
      → IsFan Lies (Some (low_of low front w.key)) (with_low low front)
      × IsFan Lies high (record { key = low_of low front w.key; page = w.page; body = w.body } ∷ back)
  fans_around high low [] w back h = (tt, h)
  fans_around high low (f ∷ fs) w back h =
      let f' : Subtree B = record { key = low; page = f.page; body = f.body } in
      (fan_front Lies high (f' ∷ fs) (w ∷ back) h, fan_back Lies high (f' ∷ fs) (w ∷ back) h)

  pub around : (low : List ℕ) (high : Option (List ℕ)) (front : List (Subtree B)) (w : Subtree B) (back : List (Subtree B))
      → IsFan Lies high (with_low low (front ++ w ∷ back)) → Rises (subtree_keys (with_low low (front ++ w ∷ back)))
      → Each (IsWithin high) (subtree_keys (with_low low (front ++ w ∷ back)))
      → IsAround Lies pairs low high front w back (low_of low front w.key) (high_of high back)
  around low high front w back fan rise within =
      let from : List ℕ = low_of low front w.key in
      let r : Rises (subtree_keys (with_low low front) ++ from ∷ subtree_keys back) = subst Rises (keys_around low front w back) rise in
      let i : Each (IsWithin high) (subtree_keys (with_low low front) ++ from ∷ subtree_keys back) =
      subst (Each (IsWithin high)) (keys_around low front w back) within in
      let fans = fans_around high low front w back fan in
      let across = rises_across (subtree_keys (with_low low front)) (from ∷ subtree_keys back) r in
      record {
        fan_front = fans.0;
        mid = fans.1.0;
        fan_back = fans.1.1;
        before = front_under from low front fans.0 (rises_front _ _ r) (each_map _ _ (λ x b. b.0) _ across);
        after = back_past high back fans.1.1 ((rises_back (subtree_keys (with_low low front)) _ r).1) ((each_back _ (subtree_keys (with_low low front)) _ i).1);
      }

-- the pairs of a sound body lie between its bounds
pub pairs_between : (d : ℕ) (low : List ℕ) (high : Option (List ℕ)) (body : Body d) → IsSound d low high body
    → Each (λ x. IsBetween low high x.key) (pairs_of d body)
pairs_between zero low high pairs h = each_of_map (IsBetween low high) (λ x. x.key) pairs h.1
pairs_between (suc d) low high [] h = tt
pairs_between (suc d) low high (w ∷ ws) h =
    fan_between (λ from to body. IsWhole d body × IsSound d from to body) (pairs_of d) (λ from to body s. pairs_between d from to body s.1)
    high (record { key = low; page = w.page; body = w.body }) ws h.0 h.1 h.2

-- the children around one child
pub around_child : (d : ℕ) (low : List ℕ) (high : Option (List ℕ)) (front : List (Subtree (Body d))) (w : Subtree (Body d)) (back : List (Subtree (Body d)))
    → IsSound (suc d) low high (front ++ w ∷ back)
    → IsAround (λ from to body. IsWhole d body × IsSound d from to body) (pairs_of d) low high front w back (low_of low front w.key) (high_of high back)
around_child d low high front w back h = around _ (pairs_of d) (λ from to body s. pairs_between d from to body s.1) low high front w back h.0 h.1 h.2
