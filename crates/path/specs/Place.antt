-- The one place that the path of an edit names: it goes on in a document by the part's field and in
-- an array by the element that the part numbers, and doesn't look into the elements.
use Rattle.std.specs.Prelude.{ℕ, Bool, true, false, if◌then◌else◌, Option, Some, None, List, []}
use Rattle.std.specs.Prelude.{◌∷◌}
use Rattle.std.specs.Option.{option_and_then}
use Rattle.bson.specs.Tree.{Tree, scalar, document, array}
use Rattle.bson.specs.Lookup.{lookup}
use Rattle.bson.specs.Edits.{item_at}
use Rattle.path.specs.Parts.{index_of}

-- the field or the element that a part names
abbrev pub child : List ℕ → Tree → Option Tree
child name (scalar s) = None
child name (document ps) = lookup ps name
child name (array ts) = option_and_then (item_at ts) (index_of name)

-- what stands at the end of the parts
abbrev pub value_at : List (List ℕ) → Tree → Option Tree
value_at [] t = Some t
value_at (name ∷ rest) t = option_and_then (value_at rest) (child name t)

abbrev pub is_array : Tree → Bool
is_array (scalar s) = false
is_array (document ps) = false
is_array (array ts) = true

abbrev pub some_passes : (Tree → Bool) → Option Tree → Bool
some_passes passes None = false
some_passes passes (Some t) = passes t

-- an array stands on the way, with parts left
abbrev pub passes_array : List (List ℕ) → Tree → Bool
passes_array [] t = false
passes_array (name ∷ rest) t =
    if is_array t then true else some_passes (passes_array rest) (child name t)
