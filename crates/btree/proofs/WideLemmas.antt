-- Wider bounds.
use Rattle.std.proofs.Common.{ℕ, zero, suc, List, [], ◌∷◌, Option, Some, None}
use Rattle.tree_model.specs.Keys.{Each, IsUnder, IsNotUnder, IsWithin, IsBetween}
use Rattle.btree.specs.Loose.{IsSpread, lowered}
use Rattle.btree.specs.Turn.{IsUpTo}
use Rattle.tree_model.specs.Tree.{Subtree, Body, IsFan, IsSound, high_of, pair_keys, subtree_keys, with_low}
use Rattle.tree_model.proofs.KeyLemmas.{not_both, not_under_itself, not_under_trans, under_then_up_to, up_to_then_under}
use Rattle.tree_model.proofs.ListLemmas.{each_map}
use Rattle.btree.proofs.LooseLemmas.{Lies}

-- whatever is below the one bound is below the other
abbrev pub IsWider : Option (List ℕ) → Option (List ℕ) → Type 0
IsWider high high' = (k : List ℕ) → IsWithin high k → IsWithin high' k

pub up_to_wider : (mid : List ℕ) (high : Option (List ℕ)) → IsUpTo mid high → IsWider (Some mid) high
up_to_wider mid None h k w = tt
up_to_wider mid (Some high) h k w = under_then_up_to k mid high w h

fan_high : {B : Type 0} (L : List ℕ → Option (List ℕ) → B → Type 0) (high high' : Option (List ℕ))
    → ((from : List ℕ) (body : B) → L from high body → L from high' body) → (ws : List (Subtree B)) → IsFan L high ws → IsFan L high' ws
fan_high L high high' f [] h = tt
fan_high L high high' f (w ∷ []) h = (f w.key w.body h.0, tt)
fan_high L high high' f (w ∷ v ∷ vs) h = (h.0, fan_high L high high' f (v ∷ vs) h.1)

pub sound_high : (d : ℕ) (low : List ℕ) (high high' : Option (List ℕ)) → IsWider high high' → (body : Body d) → IsSound d low high body
    → IsSound d low high' body
sound_high zero low high high' wide body h = (h.0, each_map _ _ (λ k b. (b.0, wide k b.1)) (pair_keys body) h.1)
sound_high (suc d) low high high' wide body h = (
  fan_high (Lies d) high high' (λ from b l. (l.0, sound_high d from high high' wide b l.1)) (with_low low body) h.0,
  h.1,
  each_map _ _ wide (subtree_keys (with_low low body)) h.2,
)

pub spread_high : (d : ℕ) (low : List ℕ) (high high' : Option (List ℕ)) → IsWider high high' → (body : Body d) → IsSpread d low high body
    → IsSpread d low high' body
spread_high zero low high high' wide body h = (h.0, each_map _ _ (λ k b. (b.0, wide k b.1)) (pair_keys body) h.1)
spread_high (suc d) low high high' wide body h = (
  fan_high (Lies d) high high' (λ from b l. (l.0, sound_high d from high high' wide b l.1)) body h.0,
  h.1,
  each_map _ _ (λ k b. (b.0, wide k b.1)) (subtree_keys body) h.2,
)

pub spread_low : (d : ℕ) (low low' : List ℕ) (high : Option (List ℕ)) → IsNotUnder low low' → (body : Body d) → IsSpread d low high body
    → IsSpread d low' high body
spread_low zero low low' high le body h = (h.0, each_map _ _ (λ k b. (not_under_trans low' low k le b.0, b.1)) (pair_keys body) h.1)
spread_low (suc d) low low' high le body h = (h.0, h.1, each_map _ _ (λ k b. (not_under_trans low' low k le b.0, b.1)) (subtree_keys body) h.2)

pub sound_low : (d : ℕ) (low low' : List ℕ) (high : Option (List ℕ)) → IsNotUnder low low' → (body : Body d) → IsSound d low high body
    → IsSound d low' high body
sound_low zero low low' high le body h = (h.0, each_map _ _ (λ k b. (not_under_trans low' low k le b.0, b.1)) (pair_keys body) h.1)
sound_low (suc d) low low' high le [] h = (tt, tt, tt)
sound_low (suc d) low low' high le (w ∷ ws) h = (
  ((h.0.0.0, sound_low d low low' (high_of high ws) le w.body h.0.0.1), h.0.1),
  (each_map _ _ (λ k u. up_to_then_under low' low k le u) (subtree_keys ws) h.1.0, h.1.1),
  (within high h.2.0, h.2.1),
)
  where
    within : (hi : Option (List ℕ)) → IsWithin hi low → IsWithin hi low'
    within None b = tt
    within (Some k) b = up_to_then_under low' low k le b

pub sound_spread : (d : ℕ) (low : List ℕ) (high : Option (List ℕ)) (body : Body d) → IsSound d low high body → IsSpread d low high (lowered d low body)
sound_spread zero low high body h = h
sound_spread (suc d) low high [] h = (tt, tt, tt)
sound_spread (suc d) low high (w ∷ ws) h = (h.0, h.1, (((not_under_itself low, h.2.0)), both (subtree_keys ws) h.1.0 h.2.1))
  where
    both : (ks : List (List ℕ)) → Each (IsUnder low) ks → Each (IsWithin high) ks → Each (IsBetween low high) ks
    both [] u b = tt
    both (k ∷ ks) u b = ((not_both low k u.0, b.0), both ks u.1 b.1)
