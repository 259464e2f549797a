-- What a walk over pages finds: the pages that it reached are those of a tree whose keys rise.
use Rattle.std.specs.Prelude.{◌≡◌, ◌≢◌, ℕ, ◌<◌, suc, zero, List, [], ◌∷◌, ◌++◌, length, take, drop}
use Rattle.std.specs.Prelude.{map, Option, Some, Result, Ok, Err}
use Rattle.page.specs.Content.{Pivot, Item, Place}
use Rattle.tree_model.specs.Keys.{Each, IsBetween, IsWithin, Pair, Rises}
use Rattle.tree_model.specs.Store.{IsAt, Store}
use Rattle.tree_model.specs.Tree.{Body, HasLinks, IsFan, IsSound, IsWhole, Shows, Subtree, pivot_of}
use Rattle.tree_model.specs.Tree.{content_of, item_of, next_of, pages_of, pair_keys, place_of}
use Rattle.tree_model.specs.Tree.{subtree_keys}
use Rattle.tree_model.specs.Tree.{with_low}
use Rattle.roots.specs.declared.opening.OpenFault.{OpenFault}
use Rattle.roots.specs.declared.opening.OpenFault.TheVariants as faults

-- a chain of so many bytes from a page on
pub record HasFoundChain (s : Store) (first len : ℕ) (before after : List ℕ) : Type 0 where
  pub links : List ℕ
  pub value : List ℕ
  pub has : HasLinks s links value
  pub next : next_of links ≡ first
  pub long : length value ≡ len
  pub reached : after ≡ before ++ links

-- the value that lies at this place
pub record HasFoundValue (s : Store) (place : Place) (before after : List ℕ) : Type 0 where
  pub links : List ℕ
  pub value : List ℕ
  pub is : place ≡ place_of links value
  pub has : 0 < length links → HasLinks s links value
  pub reached : after ≡ before ++ links

-- pairs between the bounds in these cells
pub record HasFoundPairs (s : Store) (low : List ℕ) (high : Option (List ℕ)) (items : List Item)
    (before after : List ℕ) : Type 0 where
  pub pairs : List Pair
  pub is : items ≡ map item_of pairs
  pub shown : Shows s zero pairs
  pub between : Each (IsBetween low high) (pair_keys pairs)
  pub reached : after ≡ before ++ pages_of zero pairs

-- a part of a tree, between bounds of which the low one is below the high one
pub record HasFoundPart (s : Store) (page d : ℕ) (low : List ℕ) (high : Option (List ℕ))
    (before after : List ℕ) : Type 0 where
  pub body : Body d
  pub at : IsAt s page (content_of d body)
  pub shown : Shows s d body
  pub whole : IsWhole d body
  pub sound : IsSound d low high body
  pub within : IsWithin high low
  pub reached : after ≡ before ++ page ∷ pages_of d body

-- the low key of the first one of some last children, or the high bound where there is none
abbrev pub bound_of : Option (List ℕ) → List Pivot → Option (List ℕ)
bound_of high [] = high
bound_of high (pivot ∷ pivots) = Some pivot.key

-- the parts below the first i children of a branch
pub record HasFoundFan (s : Store) (d : ℕ) (low : List ℕ) (high : Option (List ℕ))
    (pivots : List Pivot) (i : ℕ) (before after : List ℕ) : Type 0 where
  pub subtrees : List (Subtree (Body d))
  pub is : take i pivots ≡ map pivot_of subtrees
  pub shown : Shows s (suc d) subtrees
  pub fan : IsFan (λ from to body. IsWhole d body × IsSound d from to body)
      (bound_of high (drop i pivots)) (with_low low subtrees)
  pub rise : Rises (subtree_keys (with_low low subtrees))
  pub within : Each (IsWithin (bound_of high (drop i pivots)))
      (subtree_keys (with_low low subtrees))
  pub reached : after ≡ before ++ pages_of (suc d) subtrees

-- these pages were reached, below so many levels, or the fault isn't one of the pages
abbrev pub ReachesDepth : ℕ → List ℕ → List ℕ → List ℕ → Result ℕ OpenFault → Type 0
ReachesDepth d pages before after (Ok depth) = (depth ≡ d) × (after ≡ before ++ pages)
ReachesDepth d pages before after (Err fault) = fault ≢ faults.Damaged
