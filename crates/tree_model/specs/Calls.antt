-- What the calls of a tree give.
use Rattle.std.specs.Prelude.{◌≡◌, ℕ, ◌+◌, ◌<◌, ◌≤◌, ⊤, List, ◌∷◌, ◌++◌, length, map, Option, Some}
use Rattle.std.specs.Prelude.{None, Result, MatchResult}
use Rattle.std.specs.Option.{option_map}
use Rattle.std.specs.List.{flat_map, insert}
use Rattle.tree_model.specs.declared.pages.TreeFault.{TreeFault}
use Rattle.page.specs.declared.cells.Stored.{Stored}
use Rattle.page.specs.Content.{Item, IsPlace, Place, place_size}
use Rattle.tree_model.specs.Keys.{Pair, Entry, Edit, Each, IsBetween, IsUnder, Rises, change}
use Rattle.tree_model.specs.Keys.{entry_of}
use Rattle.tree_model.specs.Keys.{times, value_at}
use Rattle.tree_model.specs.Store.{HasCause, IsAt, KeepsWord, Store}
use Rattle.tree_model.specs.Tree.{Body, HasChain, HasLinks, content_of, item_of, next_of, pair_keys}
use Rattle.tree_model.specs.Tree.{place_of, IsSound, IsWhole, Shows}
use Rattle.tree_model.specs.View.{place_in}

-- an answer of which this holds, or a fault with its cause
abbrev pub IsAnswer : {X : Type 0} → Store → Store → (X → Type 0) → Result X TreeFault → Type 0
IsAnswer old new P result = MatchResult result P (HasCause old new)

-- What a call gives while the device keeps its word.
abbrev pub Yields : {X : Type 0} → Store → Store → (X → Type 0) → Result X TreeFault → Type 0
Yields old new P result = KeepsWord new → IsAnswer old new P result

-- a page that heads a sound part of a tree, at a level below its root
pub record IsPart (s : Store) (page level d : ℕ) (low : List ℕ) (high : Option (List ℕ))
    (body : Body d) : Type 0 where
  pub at : IsAt s page (content_of d body)
  pub shown : Shows s d body
  pub whole : IsWhole d body
  pub sound : IsSound d low high body
  pub depth : d + level < 32

-- the place of the value at the key, if there is one
abbrev pub IsPlaceOf : Option Pair → Option Stored → Type 0
IsPlaceOf None None = ⊤
IsPlaceOf (Some x) (Some stored) = place_in stored ≡ place_of x.links x.value
IsPlaceOf _ _ = ⊥

-- the value itself
abbrev pub Reads : {V : Type 0} → (V → List ℕ) → Store → Store → List ℕ → Result V TreeFault
    → Type 0
Reads bytes old new value result = Yields old new (λ answer. bytes answer ≡ value) result

-- a value was written into a chain of pages
pub record IsChained (old new : Store) (value : List ℕ) (page : ℕ) : Type 0 where
  pub links : List ℕ
  pub has : HasLinks new links value
  pub first : next_of links ≡ page
  pub made : (n : ℕ) → times n new.made ≡ times n links + times n old.made
  pub count : length new.made ≡ length links + length old.made
  pub retired : new.retired ≡ old.retired

abbrev pub WritesChain : Store → Store → List ℕ → Result ℕ TreeFault → Type 0
WritesChain old new value result = Yields old new (λ page. IsChained old new value page) result

-- pages were retired
pub record AreRetired (old new : Store) (links : List ℕ) : Type 0 where
  pub retired : (n : ℕ) → times n new.retired ≡ times n links + times n old.retired
  pub made : new.made ≡ old.made

abbrev pub Retires : {X : Type 0} → Store → Store → List ℕ → Result X TreeFault → Type 0
Retires old new links result = Yields old new (λ done. AreRetired old new links) result

-- What stands at a key was taken out of a leaf's pairs, and its value's pages were retired.
pub record IsTakenOut (old new : Store) (key : List ℕ) (pairs : List Pair) (items : List Item)
    (at : ℕ) : Type 0 where
  pub front : List Pair
  pub mid : List Pair
  pub back : List Pair
  pub is : pairs ≡ front ++ (mid ++ back)
  pub items_are : items ≡ map item_of (front ++ back)
  pub place : length front ≡ at
  pub under : Each (λ x. IsUnder x.key key) front
  pub here : Each (λ x. x.key ≡ key) mid
  pub over : Each (λ x. IsUnder key x.key) back
  pub retired : AreRetired old new (flat_map (λ x. x.links) mid)

abbrev pub TakesOut : Store → Store → List ℕ → List Pair → List Item → Result ℕ TreeFault → Type 0
TakesOut old new key pairs items result =
    Yields old new (λ at. IsTakenOut old new key pairs items at) result

-- no longer than what lies in a cell may be
abbrev pub IsSmallPlace : Place → Type 0
IsSmallPlace place = IsPlace place × (place_size place ≤ 330)

-- a value has its place in a cell, in it or in a chain that was written
pub record IsStored (old new : Store) (value : List ℕ) (place : Place) : Type 0 where
  pub links : List ℕ
  pub is : place ≡ place_of links value
  pub has : 0 < length links → HasLinks new links value
  pub made : (n : ℕ) → times n new.made ≡ times n links + times n old.made
  pub retired : new.retired ≡ old.retired

abbrev pub StoresValue : Store → Store → List ℕ → Result Stored TreeFault → Type 0
StoresValue old new value result =
    Yields old new (λ stored. IsStored old new value (place_in stored)) result

-- a cell was put in at a place
pub record IsPutIn (old new : Store) (key value : List ℕ) (at : ℕ)
    (items items' : List Item) : Type 0 where
  pub links : List ℕ
  pub is : items' ≡ insert items at (item_of (record { key = key; value = value; links = links }))
  pub has : 0 < length links → HasLinks new links value
  pub made : (n : ℕ) → times n new.made ≡ times n links + times n old.made
  pub retired : new.retired ≡ old.retired

abbrev pub PutsIn : {X : Type 0} → Store → Store → List ℕ → List ℕ → ℕ → List Item → List Item
    → Result X TreeFault → Type 0
PutsIn old new key value at items items' result =
    Yields old new (λ done. IsPutIn old new key value at items items') result

-- The pairs of a leaf after edits: the map that the edits make, in order, with the pages of their
-- chains.
pub record IsEdited (old new : Store) (edits : List Edit) (before : List Pair)
    (items : List Item) : Type 0 where
  pub pairs : List Pair
  pub items_are : items ≡ map item_of pairs
  pub rise : Rises (pair_keys pairs)
  pub shown : Each (HasChain new) pairs
  pub entries : map entry_of pairs ≡ change edits (map entry_of before)
  pub pages : (n : ℕ)
      → times n (flat_map (λ x. x.links) pairs) + times n new.retired + times n old.made
      ≡ times n (flat_map (λ x. x.links) before) + times n old.retired + times n new.made
  pub between : (low : List ℕ) (high : Option (List ℕ))
      → Each (IsBetween low high) (pair_keys before) → Each (λ e. IsBetween low high e.key) edits
      → Each (IsBetween low high) (pair_keys pairs)

abbrev pub Edits : {X : Type 0} → Store → Store → List Edit → List Pair → List Item
    → Result X TreeFault → Type 0
Edits old new edits before items result =
    Yields old new (λ done. IsEdited old new edits before items) result

-- Some first of these entries, and the key of the one behind them: at most so many, and all where
-- no key is given.
pub record IsCut (limit : ℕ) (all entries : List Entry) (key : List ℕ) : Type 0 where
  pub next : Entry
  pub others : List Entry
  pub is : all ≡ entries ++ next ∷ others
  pub key_is : next.key ≡ key
  pub full : length entries ≡ limit

abbrev pub IsBatch : ℕ → List Entry → List Entry → Option (List ℕ) → Type 0
IsBatch limit all entries None = (entries ≡ all) × (length entries ≤ limit)
IsBatch limit all entries (Some key) = IsCut limit all entries key

-- the value at the key, or none
abbrev pub Looks : {V : Type 0} → (V → List ℕ) → Store → Store → List ℕ → List Entry
    → Result (Option V) TreeFault → Type 0
Looks bytes old new key entries result =
    Yields old new (λ answer. option_map bytes answer ≡ value_at key entries) result
