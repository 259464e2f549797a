-- A branch of which one child changes.
use Rattle.std.specs.Prelude.{◌≡◌, ℕ, ◌+◌, ◌<◌, ◌≤◌, List, [], ◌∷◌, ◌++◌, length, map, Option, Some}
use Rattle.std.specs.Prelude.{slice_index_or, take, drop}
use Rattle.page.specs.Content.{Pivot}
use Rattle.btree.specs.Change.{IsBehind}
use Rattle.tree_model.specs.Keys.{Each, Edit, Entry, IsNotUnder, IsUnder, IsWithin, times}
use Rattle.btree.specs.Loose.{Load, Slot, pivot_slot, child, under_key}
use Rattle.tree_model.specs.Store.{Store}
use Rattle.btree.specs.Turn.{IsHeld, IsUpTo, NodeModel}

-- All edits belong to the child at this place.
pub record AreAt (pivots : List Pivot) (edits : List Edit) (at : ℕ) : Type 0 where
  pub within : at < length pivots
  pub over : (d : Pivot) → 0 < at → Each (λ e. IsNotUnder e.key (slice_index_or pivots at d).key)
      edits
  pub under : (d : Pivot) → at + 1 < length pivots
      → Each (λ e. IsUnder e.key (slice_index_or pivots (at + 1) d).key) edits

-- one child at this height, and its page
pub record IsPageOf (rank page : ℕ) (model : NodeModel) : Type 0 where
  pub slot : Slot
  pub rank_is : model.rank ≡ rank
  pub slots_are : model.slots ≡ slot ∷ []
  pub load : slot.load ≡ child page

-- What stood below one child has changed, and the children before it and behind it are still those
-- of the branch.
pub record IsAmid (s : Store) (base : ℕ) (low : List ℕ) (high : Option (List ℕ))
    (pivots : List Pivot)
    (at rank : ℕ) (entries : List Entry) (reached : List ℕ) (below : NodeModel) : Type 0 where
  pub left : List Slot
  pub right : List Slot
  pub key : List ℕ
  pub load : Load
  pub between : Option (List ℕ)
  pub front_entries : List Entry
  pub mid_entries : List Entry
  pub back_entries : List Entry
  pub front_pages : List ℕ
  pub mid_pages : List ℕ
  pub back_pages : List ℕ
  pub parts : map pivot_slot (under_key low pivots)
      ≡ (left ++ record { key = key; load = load } ∷ [])
      ++ right
  pub place : length left ≡ at
  pub entries_are : front_entries ++ (mid_entries ++ back_entries) ≡ entries
  pub pages_are : (n : ℕ)
      → times n front_pages + (times n mid_pages + times n back_pages) ≡ times n reached
  pub left_held : IsHeld s base low (Some key) front_entries front_pages
      (record { rank = rank; slots = left })
  pub held : IsHeld s base key between mid_entries mid_pages below
  pub behind : IsBehind s base between high back_entries back_pages
      (record { rank = rank; slots = right })
  pub over : IsNotUnder key low
  pub inside : IsWithin between key
  pub within : IsUpTo key high
  pub little : 6 + length key ≤ 1360

-- the cells or children from one place to below another
abbrev pub slots_between : ℕ → ℕ → List Slot → List Slot
slots_between from to slots = drop from (take to slots)

-- What stood below the children from one place to below another has changed, and those before them
-- and behind them are still those of the branch.
pub record IsAround (s : Store) (base : ℕ) (low : List ℕ) (high : Option (List ℕ))
    (slots : List Slot) (from to rank : ℕ) (entries : List Entry) (reached : List ℕ)
    (amid : NodeModel) : Type 0 where
  pub key : List ℕ
  pub between : Option (List ℕ)
  pub front_entries : List Entry
  pub mid_entries : List Entry
  pub back_entries : List Entry
  pub front_pages : List ℕ
  pub mid_pages : List ℕ
  pub back_pages : List ℕ
  pub entries_are : front_entries ++ (mid_entries ++ back_entries) ≡ entries
  pub pages_are : (n : ℕ)
      → times n front_pages + (times n mid_pages + times n back_pages) ≡ times n reached
  pub front_held : IsHeld s base low (Some key) front_entries front_pages
      (record { rank = rank; slots = take from slots })
  pub held : IsHeld s base key between mid_entries mid_pages amid
  pub behind : IsBehind s base between high back_entries back_pages
      (record { rank = rank; slots = drop to slots })
  pub over : IsNotUnder key low
  pub inside : IsUpTo key between
  pub within : IsUpTo key high
