-- What a page holds.
use Rattle.std.specs.Prelude.{◌≡◌, ◌⊎◌, ℕ, ◌+◌, ◌^◌, ◌<◌, ◌≤◌, Bool, true, false, ◌&&◌, ◌||◌, ◌==◌}
use Rattle.std.specs.Prelude.{List, [], ◌∷◌, length, map}
use Rattle.std.specs.List.{AllByRecursion}
use Rattle.std.specs.Ordering.{nat_cmp, is_lt}
use Rattle.std.specs.Cmp.Lexicographic.{slice_cmp}

-- Where a value lies: in its cell, or so many bytes in a chain from a page on.
pub data Place : Type 0 where
  inline : List ℕ → Place
  spilled : ℕ → ℕ → Place

-- a cell of a leaf
pub record Item : Type 0 where
  pub key : List ℕ
  pub place : Place

-- a child of a branch: its keys are not below this one, which is empty at the first child
pub record Pivot : Type 0 where
  pub key : List ℕ
  pub child : ℕ

-- A page of a chain or of the free list names the next one, or 0 at the end.
pub data Content : Type 0 where
  leaf : List Item → Content
  branch : List Pivot → Content
  chain : ℕ → List ℕ → Content
  free_list : ℕ → List ℕ → Content

-- ---- sizes in bytes

abbrev pub place_size : Place → ℕ
place_size (inline value) = length value
place_size (spilled len page) = 4

abbrev pub item_size : Item → ℕ
item_size item = 6 + length item.key + place_size item.place

abbrev pub pivot_size : Pivot → ℕ
pivot_size pivot = 6 + length pivot.key

abbrev pub total : {X : Type 0} → (X → ℕ) → List X → ℕ
total size [] = 0
total size (x ∷ xs) = size x + total size xs

-- The first child of a branch has no key.
abbrev pub pivots_size : List Pivot → ℕ
pivots_size [] = 0
pivots_size (first ∷ pivots) = 4 + total pivot_size pivots

-- ---- order

-- the bytes of the one key come before those of the other
abbrev pub is_below : List ℕ → List ℕ → Bool
is_below key other = is_lt (slice_cmp nat_cmp key other)

-- each key is below the next one, and the first is above this one
abbrev pub rise_above : List ℕ → List (List ℕ) → Bool
rise_above last [] = true
rise_above last (key ∷ keys) = is_below last key && rise_above key keys

abbrev pub rise : List (List ℕ) → Bool
rise [] = true
rise (key ∷ keys) = rise_above key keys

-- ---- what a page of the tree may hold

-- A value of more than 330 bytes lies in a chain, and no other.
abbrev pub IsPlace : Place → Type 0
IsPlace (inline value) = length value ≤ 330
IsPlace (spilled len page) = (330 < len) × (len < 2 ^ 32) × (page < 2 ^ 32)

pub record IsItem (item : Item) : Type 0 where
  pub size : item_size item ≤ 1360
  pub place : IsPlace item.place

pub record IsPivot (pivot : Pivot) : Type 0 where
  pub size : pivot_size pivot ≤ 1360
  pub child : pivot.child < 2 ^ 32

abbrev pub item_keys : List Item → List (List ℕ)
item_keys items = map (λ item. item.key) items

abbrev pub pivot_keys : List Pivot → List (List ℕ)
pivot_keys pivots = map (λ pivot. pivot.key) pivots

abbrev pub pivot_pages : List Pivot → List ℕ
pivot_pages pivots = map (λ pivot. pivot.child) pivots

-- One cell or more, in ascending order of their keys, that find room.
pub record IsLeaf (items : List Item) : Type 0 where
  pub some : 0 < length items
  pub each : AllByRecursion IsItem items
  pub ascending : rise (item_keys items) ≡ true
  pub room : total item_size items ≤ 4080

abbrev pub first_key : List Pivot → List ℕ
first_key [] = []
first_key (first ∷ pivots) = first.key

-- Two children or more, in ascending order of their keys, of which the first is empty, that find
-- room.
pub record IsBranch (pivots : List Pivot) : Type 0 where
  pub some : 2 ≤ length pivots
  pub bare : first_key pivots ≡ []
  pub each : AllByRecursion IsPivot pivots
  pub ascending : rise (pivot_keys pivots) ≡ true
  pub room : pivots_size pivots ≤ 4080

-- What a tree may have: a page of a chain that names the next one is full, and a list of free pages
-- has no place there.
abbrev pub is_of_tree : Content → Bool
is_of_tree (leaf items) = true
is_of_tree (branch pivots) = true
is_of_tree (chain next bytes) = next == 0 || length bytes == 4076
is_of_tree (free_list next pages) = false

-- A page of a chain holds 4,076 bytes, the last one at most as many, and one of the free list at
-- most 1,019 numbers.
abbrev pub IsContent : Content → Type 0
IsContent (leaf items) = IsLeaf items
IsContent (branch pivots) = IsBranch pivots
IsContent (chain next bytes) =
    (next < 2 ^ 32) × (length bytes ≤ 4076) × ((next ≡ 0) ⊎ (length bytes ≡ 4076))
IsContent (free_list next pages) =
    (next < 2 ^ 32) × (length pages ≤ 1019) × AllByRecursion (λ page. page < 2 ^ 32) pages
