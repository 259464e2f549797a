-- Projections: what one is, and what it leaves of a document.
use Rattle.std.specs.Prelude.{ℕ, not, Bool, ◌&&◌, true, false, if◌then◌else◌, Option, Some, None}
use Rattle.std.specs.Prelude.{List, [], ◌∷◌}
use Rattle.std.specs.List.{list_any}
use Rattle.std.specs.Str.{bytes_eq}
use Rattle.bson.specs.Tree.{Tree, scalar, document, array, Pairs, no_pairs, pair, Items, no_items}
use Rattle.bson.specs.Tree.{item}

abbrev pub Path : Type 0
Path = List (List ℕ)

-- whether the paths are kept or taken away, and the paths
abbrev pub Projection : Type 0
Projection = Bool × List Path

-- what the paths that begin with a name say of its value
abbrev pub below : List ℕ → List Path → List Path
below name [] = []
below name ([] ∷ paths) = below name paths
below name ((first ∷ rest) ∷ paths) =
    if bytes_eq name first then rest ∷ below name paths else below name paths

abbrev pub is_end : Path → Bool
is_end [] = true
is_end (name ∷ rest) = false

abbrev pub is_none : List Path → Bool
is_none [] = true
is_none (path ∷ paths) = false

abbrev pub only : Bool → Tree → Option Tree
only b t = if b then Some t else None

-- Where no path says anything of a value, an inclusion drops it; where one ends there, it keeps it
-- whole; else a part of it stays. An exclusion does the opposite.
abbrev pub pick : Bool → List Path → Tree → Option Tree → Option Tree
pick includes paths whole part = if is_none paths then only (not includes) whole
    else if list_any is_end paths then only includes whole else part

abbrev pub add_pair : List ℕ → Option Tree → Pairs → Pairs
add_pair name None ps = ps
add_pair name (Some t) ps = pair name t ps

abbrev pub add_item : Option Tree → Items → Items
add_item None ts = ts
add_item (Some t) ts = item t ts

-- A value on the way that is no document and no array is dropped by an inclusion and kept by an
-- exclusion. Digits are plain names, and an array is gone through element by element.
module _ (includes : Bool) where
  abbrev mutual
    pub of_tree : List Path → Tree → Option Tree
    of_tree paths (scalar s) = pick includes paths (scalar s) (only (not includes) (scalar s))
    of_tree paths (document ps) =
        pick includes paths (document ps) (Some (document (of_pairs paths ps)))
    of_tree paths (array ts) = pick includes paths (array ts) (Some (array (of_items paths ts)))

    pub of_pairs : List Path → Pairs → Pairs
    of_pairs paths no_pairs = no_pairs
    of_pairs paths (pair name t ps) =
        add_pair name (of_tree (below name paths) t) (of_pairs paths ps)

    pub of_items : List Path → Items → Items
    of_items paths no_items = no_items
    of_items paths (item t ts) = add_item (of_tree paths t) (of_items paths ts)

-- the projection that says nothing of any field, and so keeps all
abbrev pub keeps_all : Projection → Bool
keeps_all p = not p.0 && is_none p.1

abbrev pub project : Projection → Pairs → Pairs
project p ps = of_pairs p.0 p.1 ps
