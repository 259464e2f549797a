-- The value of `"$path"` (MongoDB manual, "Field Paths"). Documents are descended by field. An
-- array with parts left gives the array of what its documents and arrays give. Any other value with
-- parts left gives nothing.
use Rattle.std.specs.Prelude.{ℕ, Option, Some, None, List, [], ◌∷◌}
use Rattle.std.specs.Option.{option_and_then}
use Rattle.bson.specs.Tree.{Tree, scalar, document, array, Items, no_items, item}
use Rattle.bson.specs.Lookup.{lookup}
use Rattle.projection.specs.Projection.{add_item}

-- on by the field of a name, from a document or from each element of an array
module _ (go : Tree → Option Tree) (name : List ℕ) where
  abbrev mutual
    pub by_field : Tree → Option Tree
    by_field (scalar s) = None
    by_field (document ps) = option_and_then go (lookup ps name)
    by_field (array ts) = Some (array (each_by_field ts))

    pub each_by_field : Items → Items
    each_by_field no_items = no_items
    each_by_field (item t ts) = add_item (by_field t) (each_by_field ts)

abbrev pub path_value : List (List ℕ) → Tree → Option Tree
path_value [] t = Some t
path_value (name ∷ rest) t = by_field (path_value rest) name t
