-- Cells and children that were taken out of their pages, and stand in none yet.
use Rattle.std.specs.Prelude.{◌≡◌, ℕ, zero, suc, ◌+◌, ◌^◌, ◌<◌, ◌≤◌, ◌⊎◌, ⊤, Bool, false, List, []}
use Rattle.std.specs.Prelude.{◌∷◌, map, take, length, Option, Some, None}
use Rattle.page.specs.Content.{Place, Item, Pivot, IsPlace, place_size}
use Rattle.tree_model.specs.Keys.{Pair, Each, IsUnder, Rises, IsBetween}
use Rattle.tree_model.specs.Tree.{with_low, Subtree, Body, IsFan, IsWhole, IsSound, pivot_of}
use Rattle.tree_model.specs.Tree.{item_of}
use Rattle.tree_model.specs.Tree.{pair_keys, subtree_keys}

-- what stands beside a key: a value's place, or a page
pub data Load : Type 0 where
  value : Place → Load
  child : ℕ → Load

-- what a page has at one key: a cell of a leaf, or a child of a branch
pub record Slot : Type 0 where
  pub key : List ℕ
  pub load : Load

abbrev pub IsChild : Load → Type 0
IsChild (value place) = ⊥
IsChild (child page) = ⊤

abbrev pub item_slot : Item → Slot
item_slot item = record { key = item.key; load = value item.place }

abbrev pub pivot_slot : Pivot → Slot
pivot_slot pivot = record { key = pivot.key; load = child pivot.child }

abbrev pub pair_slot : Pair → Slot
pair_slot x = item_slot (item_of x)

abbrev pub subtree_slot : {B : Type 0} → Subtree B → Slot
subtree_slot w = pivot_slot (pivot_of w)

abbrev pub slots_of : (d : ℕ) → Body d → List Slot
slots_of zero pairs = map pair_slot pairs
slots_of (suc d) subtrees = map subtree_slot subtrees

abbrev pub slot_keys : List Slot → List (List ℕ)
slot_keys slots = map (λ s. s.key) slots

-- ---- sizes in bytes

abbrev pub load_size : Load → ℕ
load_size (value place) = place_size place
load_size (child page) = 0

abbrev pub slot_size : Slot → ℕ
slot_size s = 6 + length s.key + load_size s.load

abbrev pub slots_size : List Slot → ℕ
slots_size [] = 0
slots_size (s ∷ ss) = slot_size s + slots_size ss

abbrev pub IsLoad : Load → Type 0
IsLoad (value place) = IsPlace place
IsLoad (child page) = page < 2 ^ 32

-- no larger than a third of a page
pub record IsSlot (s : Slot) : Type 0 where
  pub size : slot_size s ≤ 1360
  pub load : IsLoad s.load

abbrev pub IsOver : Option (List ℕ) → List ℕ → Type 0
IsOver None key = ⊤
IsOver (Some last) key = IsUnder last key

-- what goes into a page behind a key, where so many bytes are used
abbrev pub GoBehind : Option (List ℕ) → ℕ → List Slot → Type 0
GoBehind last used [] = ⊤
GoBehind last used (s ∷ ss) =
    IsSlot s × IsOver last s.key × (used + slot_size s ≤ 4080)
    × GoBehind (Some s.key) (used + slot_size s) ss

-- ---- order

-- Keys rise and lie between the bounds, and each child lies from its own key up to the next one's.
abbrev pub IsSpread : (d : ℕ) → List ℕ → Option (List ℕ) → Body d → Type 0
IsSpread zero low high pairs = Rises (pair_keys pairs) × Each (IsBetween low high) (pair_keys pairs)
IsSpread (suc d) low high subtrees =
    IsFan (λ from to body. IsWhole d body × IsSound d from to body) high subtrees
    × Rises (subtree_keys subtrees) × Each (IsBetween low high) (subtree_keys subtrees)

-- A part in front that goes into a page. Where the pages needn't be filled, it holds two cells or
-- more, and so does what is behind it, if there is anything.
pub record IsPart (fills : Bool) (slots : List Slot) (at : ℕ) : Type 0 where
  pub room : slots_size (take at slots) ≤ 4080
  pub many : fills ≡ false → 2 ≤ length slots
      → (2 ≤ at) × ((at ≡ length slots) ⊎ (at + 2 ≤ length slots))

-- the first key, or a bound where there is none
abbrev pub first_or : Option (List ℕ) → List Slot → Option (List ℕ)
first_or high [] = high
first_or high (s ∷ ss) = Some s.key

-- enough for a page at this height: a leaf has a cell, and a branch two children
abbrev pub IsEnough : ℕ → List Slot → Type 0
IsEnough zero slots = 0 < length slots
IsEnough (suc d) slots = 2 ≤ length slots

-- the first child of a branch has no key
abbrev pub bare_pivots : List Pivot → List Pivot
bare_pivots [] = []
bare_pivots (pivot ∷ pivots) = record { key = []; child = pivot.child } ∷ pivots

-- a body as its page has it
abbrev pub bare : (d : ℕ) → Body d → Body d
bare zero pairs = pairs
bare (suc d) subtrees = with_low [] subtrees

-- a branch's children, the first under a key
abbrev pub under_key : List ℕ → List Pivot → List Pivot
under_key key [] = []
under_key key (pivot ∷ pivots) = record { key = key; child = pivot.child } ∷ pivots

-- a sound body, its first child under the low bound
abbrev pub lowered : (d : ℕ) → List ℕ → Body d → Body d
lowered zero low body = body
lowered (suc d) low body = with_low low body
