-- Places of keys among those of a page.
use Rattle.std.specs.Prelude.{◌≡◌, ℕ, ◌+◌, ◌<◌, ◌≤◌, ⊤, List, [], ◌∷◌, ◌++◌, length, Option, Some}
use Rattle.std.specs.Prelude.{slice_index_or}
use Rattle.tree_model.specs.Keys.{Each, IsUnder, IsNotUnder, IsBetween, IsWithin, IsPast}
use Rattle.page.specs.Content.{Item, Pivot, Content, leaf, branch, chain, free_list, item_keys}
use Rattle.page.specs.Content.{pivot_keys}

-- what stands before this place is below the key, and what stands at it isn't
pub record IsPlace (items : List Item) (key : List ℕ) (at : ℕ) : Type 0 where
  pub within : at ≤ length items
  pub below : (k : ℕ) (d : Item) → k + 1 ≡ at → IsUnder (slice_index_or items k d).key key
  pub above : (d : Item) → at < length items → IsNotUnder (slice_index_or items at d).key key

-- what stands before this place is below the bound, if there is one, and what stands at it isn't
pub record IsEndPlace (items : List Item) (high : Option (List ℕ)) (at : ℕ) : Type 0 where
  pub within : at ≤ length items
  pub below : (k : ℕ) (d : Item) → k + 1 ≡ at → IsWithin high (slice_index_or items k d).key
  pub above : (d : Item) → at < length items → IsPast high (slice_index_or items at d).key

-- The key has no cell, and belongs at this place.
pub record IsGap (items : List Item) (key : List ℕ) (at : ℕ) : Type 0 where
  pub front : List Item
  pub back : List Item
  pub is : items ≡ front ++ back
  pub place : length front ≡ at
  pub under : Each (λ (it : Item). IsUnder it.key key) front
  pub over : Each (λ (it : Item). IsUnder key it.key) back

-- what stands at this place isn't above the key, unless it is the first, and what stands behind it
-- is
pub record IsChildPlace (pivots : List Pivot) (key : List ℕ) (at : ℕ) : Type 0 where
  pub within : at < length pivots
  pub below : (d : Pivot) → 0 < at → IsNotUnder key (slice_index_or pivots at d).key
  pub above : (d : Pivot) → at + 1 < length pivots
      → IsUnder key (slice_index_or pivots (at + 1) d).key

-- the bounds of the child at this place
pub record AreBounds (low : List ℕ) (high : Option (List ℕ)) (pivots : List Pivot) (at : ℕ)
    (from : List ℕ) (to : Option (List ℕ)) : Type 0 where
  pub first : at ≡ 0 → from ≡ low
  pub later : (d : Pivot) → 0 < at → from ≡ (slice_index_or pivots at d).key
  pub last : length pivots ≤ at + 1 → to ≡ high
  pub inner : (d : Pivot) → at + 1 < length pivots
      → to ≡ Some (slice_index_or pivots (at + 1) d).key

-- the keys of the children behind the first
abbrev pub later_keys : List Pivot → List (List ℕ)
later_keys [] = []
later_keys (pivot ∷ pivots) = pivot_keys pivots

-- the keys of a page lie between the bounds
abbrev pub LieBetween : List ℕ → Option (List ℕ) → Content → Type 0
LieBetween low high (leaf items) = Each (IsBetween low high) (item_keys items)
LieBetween low high (branch pivots) = Each (IsBetween low high) (later_keys pivots)
LieBetween low high (chain next bytes) = ⊤
LieBetween low high (free_list next pages) = ⊤
