-- What a path reaches nests no deeper than where it began.
use Rattle.std.proofs.Common.{◌≡◌, ℕ, zero, suc, ◌≤◌, ◌++◌, Bool, true, false, List, [], ◌∷◌, Option, Some, None, arith, refl}
use Rattle.std.specs.Prelude.{if◌then◌else◌}
use Rattle.std.specs.Option.{option_and_then}
use Rattle.std.specs.Str.{bytes_eq}
use Rattle.bson.specs.Edits.{item_at}
use Rattle.bson.specs.Lawful.{levels, pairs_levels, items_levels}
use Rattle.bson.specs.Lookup.{lookup}
use Rattle.bson.specs.Tree.{Tree, scalar, document, array, Pairs, no_pairs, pair, Items, no_items, item}
use Rattle.path.specs.Parts.{is_digits, index_of}
use Rattle.path.specs.Reach.{Reached, reach, onwards, in_elements, in_place}
use Rattle.distinct_values.specs.DistinctValues.{reached_levels}

-- each nests at most so many levels
abbrev pub AreFlat : ℕ → List Reached → Type 0
AreFlat most [] = Unit {0}
AreFlat most (r ∷ rs) = (reached_levels r ≤ most) × AreFlat most rs

append_flat : (most : ℕ) (rs ss : List Reached) → AreFlat most rs → AreFlat most ss → AreFlat most (rs ++ ss)
append_flat most [] ss h k = k
append_flat most (r ∷ rs) ss h k = (h.0, append_flat most rs ss h.1 k)

module _ (most : ℕ) (go : Tree → List Reached) (on : (t : Tree) → levels t ≤ most → AreFlat most (go t)) where
  field_flat : (ps : Pairs) (name : List ℕ) (none : List Reached) → pairs_levels ps ≤ most → AreFlat most none → AreFlat most (onwards go (lookup ps name) none)
  field_flat no_pairs name none h k = k
  field_flat (pair other t ps) name none h k = at (bytes_eq name other) (on t (omega (arith, h))) (field_flat ps name none (omega (arith, h)) k)
    where
      at : (b : Bool) → AreFlat most (go t) → AreFlat most (onwards go (lookup ps name) none)
          → AreFlat most (onwards go (if b then Some t else lookup ps name) none)
      at true this later = this
      at false this later = later

  item_flat : (ts : Items) (i : ℕ) → items_levels ts ≤ most → AreFlat most (onwards go (item_at ts i) [])
  item_flat no_items i h = tt
  item_flat (item t ts) zero h = on t (omega (arith, h))
  item_flat (item t ts) (suc i) h = item_flat ts i (omega (arith, h))

  place_flat : (ts : Items) (i : Option ℕ) → items_levels ts ≤ most → AreFlat most (onwards go (option_and_then (item_at ts) i) [])
  place_flat ts None h = tt
  place_flat ts (Some i) h = item_flat ts i h

  missing_flat : (b : Bool) → AreFlat most (if b then [] else None ∷ [])
  missing_flat true = tt
  missing_flat false = (omega arith, tt)

  elements_flat : (name : List ℕ) (ts : Items) → items_levels ts ≤ most → AreFlat most (in_elements go name ts)
  elements_flat name no_items h = tt
  elements_flat name (item (scalar s) ts) h = elements_flat name ts (omega (arith, h))
  elements_flat name (item (array us) ts) h = elements_flat name ts (omega (arith, h))
  elements_flat name (item (document ps) ts) h =
      append_flat most (onwards go (lookup ps name) (if is_digits name then [] else None ∷ [])) (in_elements go name ts)
      (field_flat ps name (if is_digits name then [] else None ∷ []) (omega (arith, h)) (missing_flat (is_digits name)))
      (elements_flat name ts (omega (arith, h)))

pub reach_flat : (most : ℕ) (path : List (List ℕ)) (t : Tree) → levels t ≤ most → AreFlat most (reach path t)
reach_flat most [] t h = (h, tt)
reach_flat most (name ∷ rest) (scalar s) h = (omega arith, tt)
reach_flat most (name ∷ rest) (document ps) h =
    field_flat most (reach rest) (reach_flat most rest) ps name (None ∷ []) (omega (arith, h)) (omega arith, tt)
reach_flat most (name ∷ rest) (array ts) h =
    append_flat most (in_elements (reach rest) name ts) (in_place (reach rest) name ts)
    (elements_flat most (reach rest) (reach_flat most rest) name ts (omega (arith, h)))
    (place_flat most (reach rest) (reach_flat most rest) ts (index_of name) (omega (arith, h)))
