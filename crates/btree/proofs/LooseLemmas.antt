-- Bodies in parts: what holds of both parts, and of the whole.
use Rattle.std.proofs.Common.{◌≡◌, ℕ, zero, suc, ◌+◌, List, [], ◌∷◌, ◌++◌, map, take, drop, Option, Some, refl, sym, ap, ◌∙◌, subst}
use Rattle.tree_model.specs.Keys.{Each, Rises, IsUnder, IsBetween, entry_of, times}
use Rattle.tree_model.specs.Store.{Store}
use Rattle.btree.specs.Loose.{IsSpread, Slot, bare, first_or, pair_slot, subtree_slot, slots_of}
use Rattle.tree_model.specs.Tree.{Subtree, Body, IsSound, IsWhole, Shows, entries_of, high_of, pages_of, pair_keys, pairs_of, subtree_keys}
use Rattle.tree_model.proofs.KeyLemmas.{under_trans, not_under_itself, not_both, within_wider}
use Rattle.tree_model.proofs.ListLemmas.{each_append, each_back, each_front, each_map, flat_append, map_append, rises_append, rises_back, rises_front}
use Rattle.tree_model.proofs.ListLemmas.{times_append}
use Rattle.tree_model.proofs.FanLemmas.{fan_append, fan_back, fan_front}

abbrev pub joined : (d : ℕ) → Body d → Body d → Body d
joined zero xs ys = xs ++ ys
joined (suc d) xs ys = xs ++ ys

-- a child's page is whole, and it lies between the bounds
abbrev pub Lies : (d : ℕ) → List ℕ → Option (List ℕ) → Body d → Type 0
Lies d from to body = IsWhole d body × IsSound d from to body

abbrev pub none_of : (d : ℕ) → Body d
none_of zero = []
none_of (suc d) = []

pub slots_joined : (d : ℕ) (a b : Body d) → slots_of d (joined d a b) ≡ slots_of d a ++ slots_of d b
slots_joined zero a b = map_append pair_slot a b
slots_joined (suc d) a b = map_append subtree_slot a b

pub pairs_joined : (d : ℕ) (a b : Body d) → pairs_of d (joined d a b) ≡ pairs_of d a ++ pairs_of d b
pairs_joined zero a b = refl
pairs_joined (suc d) a b = flat_append (λ w. pairs_of d w.body) a b

pub entries_joined : (d : ℕ) (a b : Body d) → entries_of d (joined d a b) ≡ entries_of d a ++ entries_of d b
entries_joined d a b = ap (map entry_of) (pairs_joined d a b) ∙ map_append entry_of (pairs_of d a) (pairs_of d b)

pub pages_joined : (d : ℕ) (a b : Body d) (n : ℕ) → times n (pages_of d (joined d a b)) ≡ times n (pages_of d a) + times n (pages_of d b)
pages_joined zero a b n = ap (times n) (flat_append (λ x. x.links) a b) ∙ times_append n _ _
pages_joined (suc d) a b n = ap (times n) (flat_append (λ w. w.page ∷ pages_of d w.body) a b) ∙ times_append n _ _

pub shows_joined : (s : Store) (d : ℕ) (a b : Body d) → Shows s d a → Shows s d b → Shows s d (joined d a b)
shows_joined s zero a b h g = each_append _ a b h g
shows_joined s (suc d) a b h g = each_append _ a b h g

pub shows_parts : (s : Store) (d : ℕ) (a b : Body d) → Shows s d (joined d a b) → Shows s d a × Shows s d b
shows_parts s zero a b h = (each_front _ a b h, each_back _ a b h)
shows_parts s (suc d) a b h = (each_front _ a b h, each_back _ a b h)

-- ---- order

high_is : {B : Type 0} (high : Option (List ℕ)) (ws : List (Subtree B)) → first_or high (map subtree_slot ws) ≡ high_of high ws
high_is high [] = refl
high_is high (w ∷ ws) = refl

keys_split : (low : List ℕ) (high : Option (List ℕ)) (xs : List (List ℕ)) (k : List ℕ) (ks : List (List ℕ)) → Rises (xs ++ k ∷ ks)
    → Each (IsBetween low high) (xs ++ k ∷ ks) → Each (IsBetween low (Some k)) xs
keys_split low high [] k ks rise between = tt
keys_split low high (x ∷ xs) k ks rise between = ((between.0.0, (each_back _ xs (k ∷ ks) rise.0).0), keys_split low high xs k ks rise.1 between.1)

keys_glue : (low : List ℕ) (high : Option (List ℕ)) (xs : List (List ℕ)) (k : List ℕ) (ks : List (List ℕ)) → Rises xs → Each (IsBetween low (Some k)) xs
    → Rises (k ∷ ks) → Each (IsBetween low high) (k ∷ ks)
    → Rises (xs ++ k ∷ ks) × Each (IsBetween low high) (xs ++ k ∷ ks)
keys_glue low high xs k ks rise between rise' between' = (
  rises_append xs (k ∷ ks) rise rise' (each_map _ _ (λ x b. (b.1, each_map _ _ (λ y u. under_trans x k y b.1 u) ks rise'.0)) xs between),
  each_append _ xs (k ∷ ks) (each_map _ _ (λ x b. (b.0, within_wider high k x between'.0.1 b.1)) xs between) between',
)

pub spread_split : (d : ℕ) (low : List ℕ) (high : Option (List ℕ)) (a b : Body d) → IsSpread d low high (joined d a b)
    → IsSpread d low (first_or high (slots_of d b)) a × IsSpread d low high b
spread_split zero low high a [] h = let keys = map_append (λ x. x.key) a [] in
    ((rises_front _ _ (subst Rises keys h.0), each_front _ (pair_keys a) _ (subst (Each (IsBetween low high)) keys h.1)), (tt, tt))
spread_split zero low high a (y ∷ ys) h =
    let keys = map_append (λ x. x.key) a (y ∷ ys) in
    let r = subst Rises keys h.0 in
    let b = subst (Each (IsBetween low high)) keys h.1 in
    ((rises_front _ _ r, keys_split low high (pair_keys a) y.key (pair_keys ys) r b), (rises_back (pair_keys a) _ r, each_back _ (pair_keys a) _ b))
spread_split (suc d) low high a [] h =
    let keys = map_append (λ w. w.key) a [] in (
      (fan_front (Lies d) high a [] h.0, rises_front _ _ (subst Rises keys h.1), each_front _ (subtree_keys a) _ (subst (Each (IsBetween low high)) keys h.2)),
      (tt, tt, tt),
    )
spread_split (suc d) low high a (y ∷ ys) h =
    let keys = map_append (λ w. w.key) a (y ∷ ys) in
    let r = subst Rises keys h.1 in
    let b = subst (Each (IsBetween low high)) keys h.2 in (
      (fan_front (Lies d) high a (y ∷ ys) h.0, rises_front _ _ r, keys_split low high (subtree_keys a) y.key (subtree_keys ys) r b),
      (fan_back (Lies d) high a (y ∷ ys) h.0, rises_back (subtree_keys a) _ r, each_back _ (subtree_keys a) _ b),
    )

pub spread_glue : (d : ℕ) (low : List ℕ) (high : Option (List ℕ)) (a b : Body d) → IsSpread d low (first_or high (slots_of d b)) a → IsSpread d low high b
    → IsSpread d low high (joined d a b)
spread_glue zero low high a [] h g =
    let keys = map_append (λ x. x.key) a [] in (
      subst Rises (sym keys) (rises_append (pair_keys a) [] h.0 tt (each_map _ _ (λ x b. tt) (pair_keys a) h.1)),
      subst (Each (IsBetween low high)) (sym keys) (each_append _ (pair_keys a) [] h.1 tt),
    )
spread_glue zero low high a (y ∷ ys) h g =
    let keys = map_append (λ x. x.key) a (y ∷ ys) in
    let k = keys_glue low high (pair_keys a) y.key (pair_keys ys) h.0 h.1 g.0 g.1 in
    (subst Rises (sym keys) k.0, subst (Each (IsBetween low high)) (sym keys) k.1)
spread_glue (suc d) low high a [] h g =
    let keys = map_append (λ w. w.key) a [] in (
      fan_append (Lies d) high a [] h.0 tt,
      subst Rises (sym keys) (rises_append (subtree_keys a) [] h.1 tt (each_map _ _ (λ x b. tt) (subtree_keys a) h.2)),
      subst (Each (IsBetween low high)) (sym keys) (each_append _ (subtree_keys a) [] h.2 tt),
    )
spread_glue (suc d) low high a (y ∷ ys) h g =
    let keys = map_append (λ w. w.key) a (y ∷ ys) in
    let k = keys_glue low high (subtree_keys a) y.key (subtree_keys ys) h.1 h.2 g.1 g.2 in
    (fan_append (Lies d) high a (y ∷ ys) h.0 g.0, subst Rises (sym keys) k.0, subst (Each (IsBetween low high)) (sym keys) k.1)

-- ---- a body cut at a place

pub record IsSplit (d : ℕ) (body : Body d) (at : ℕ) : Type 0 where
  pub front : Body d
  pub back : Body d
  pub is : body ≡ joined d front back
  pub front_are : slots_of d front ≡ take at (slots_of d body)
  pub back_are : slots_of d back ≡ drop at (slots_of d body)

pub take_drop : {X : Type 0} (n : ℕ) (xs : List X) → xs ≡ take n xs ++ drop n xs
take_drop zero xs = refl
take_drop (suc n) [] = refl
take_drop (suc n) (x ∷ xs) = ap (λ zs. x ∷ zs) (take_drop n xs)

pub map_take : {X Y : Type 0} (f : X → Y) (n : ℕ) (xs : List X) → map f (take n xs) ≡ take n (map f xs)
map_take f zero xs = refl
map_take f (suc n) [] = refl
map_take f (suc n) (x ∷ xs) = ap (λ zs. f x ∷ zs) (map_take f n xs)

pub map_behind : {X Y : Type 0} (f : X → Y) (n : ℕ) (xs : List X) → map f (drop n xs) ≡ drop n (map f xs)
map_behind f zero xs = refl
map_behind f (suc n) [] = refl
map_behind f (suc n) (x ∷ xs) = map_behind f n xs

pub split_body : (d : ℕ) (body : Body d) (at : ℕ) → IsSplit d body at
split_body zero body at = record
    { front = take at body; back = drop at body; is = take_drop at body; front_are = map_take pair_slot at body; back_are = map_behind pair_slot at body }
split_body (suc d) body at = record
    { front = take at body; back = drop at body; is = take_drop at body; front_are = map_take subtree_slot at body; back_are = map_behind subtree_slot at body }

-- ---- as a page has it

pub bare_pairs : (d : ℕ) (body : Body d) → pairs_of d (bare d body) ≡ pairs_of d body
bare_pairs zero body = refl
bare_pairs (suc d) [] = refl
bare_pairs (suc d) (w ∷ ws) = refl

pub bare_pages : (d : ℕ) (body : Body d) → pages_of d (bare d body) ≡ pages_of d body
bare_pages zero body = refl
bare_pages (suc d) [] = refl
bare_pages (suc d) (w ∷ ws) = refl

pub bare_shows : (s : Store) (d : ℕ) (body : Body d) → Shows s d body → Shows s d (bare d body)
bare_shows s zero body h = h
bare_shows s (suc d) [] h = h
bare_shows s (suc d) (w ∷ ws) h = h

-- what is spread, under its first key
pub bare_sound : (d : ℕ) (low : List ℕ) (high : Option (List ℕ)) (body : Body d) (s : Slot) (ss : List Slot) → slots_of d body ≡ s ∷ ss
    → IsSpread d low high body → IsSound d s.key high (bare d body)
bare_sound zero low high [] s ss e h = cc
bare_sound zero low high (x ∷ xs) s ss e h =
    let same : x.key ≡ s.key = cc in
    (h.0, subst (λ k. Each (IsBetween k high) (pair_keys (x ∷ xs))) same ((not_under_itself x.key, h.1.0.1), later (pair_keys xs) h.0.0 h.1.1))
  where
    later : (ks : List (List ℕ)) → Each (IsUnder x.key) ks → Each (IsBetween low high) ks → Each (IsBetween x.key high) ks
    later [] u b = tt
    later (k ∷ ks) u b = ((not_both x.key k u.0, b.0.1), later ks u.1 b.1)
bare_sound (suc d) low high [] s ss e h = cc
bare_sound (suc d) low high (w ∷ ws) s ss e h =
    let same : w.key ≡ s.key = cc in
    subst (λ k. IsSound (suc d) k high (bare (suc d) (w ∷ ws))) same (h.0, h.1, each_map _ _ (λ k b. b.1) (subtree_keys (w ∷ ws)) h.2)
