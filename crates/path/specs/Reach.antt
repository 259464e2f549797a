-- What a path reaches from a value: a list of values and of Missing, which is None here.
use Rattle.std.specs.Prelude.{ℕ, if◌then◌else◌, Option, Some, None, List, [], ◌∷◌, ◌++◌}
use Rattle.std.specs.Option.{option_and_then}
use Rattle.bson.specs.Tree.{Tree, scalar, document, array, Items, no_items, item}
use Rattle.bson.specs.Lookup.{lookup}
use Rattle.bson.specs.Edits.{item_at}
use Rattle.path.specs.Parts.{is_digits, index_of}

abbrev pub Reached : Type 0
Reached = Option Tree

-- on from what was found, else this
abbrev pub onwards : (Tree → List Reached) → Option Tree → List Reached → List Reached
onwards go None none = none
onwards go (Some t) none = go t

-- on in each element that is a document, in order; one that lacks a field named by digits is passed
-- over
abbrev pub in_elements : (Tree → List Reached) → List ℕ → Items → List Reached
in_elements go name no_items = []
in_elements go name (item (document ps) ts) =
    onwards go (lookup ps name) (if is_digits name then [] else None ∷ []) ++ in_elements go name ts
in_elements go name (item t ts) = in_elements go name ts

-- on in the element that the part numbers
abbrev pub in_place : (Tree → List Reached) → List ℕ → Items → List Reached
in_place go name ts = onwards go (option_and_then (item_at ts) (index_of name)) []

-- The parts that are left, and the value that was come to. Where no parts are left, it is the value
-- itself; a document is left by the part's field, or it is Missing; an array by its elements that
-- are documents, then by the element that the part numbers; any other value with parts left is
-- Missing.
abbrev pub reach : List (List ℕ) → Tree → List Reached
reach [] t = Some t ∷ []
reach (name ∷ rest) (scalar s) = None ∷ []
reach (name ∷ rest) (document ps) = onwards (reach rest) (lookup ps name) (None ∷ [])
reach (name ∷ rest) (array ts) = in_elements (reach rest) name ts ++ in_place (reach rest) name ts

-- ---- candidates

abbrev pub items_list : Items → List Tree
items_list no_items = []
items_list (item t ts) = t ∷ items_list ts

-- a value and, where it is an array, its elements; Missing has none
abbrev pub candidates : Reached → List Tree
candidates None = []
candidates (Some (array ts)) = array ts ∷ items_list ts
candidates (Some t) = t ∷ []
