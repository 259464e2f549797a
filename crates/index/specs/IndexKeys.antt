-- The keys of a document in an index (MongoDB manual, "Multikey Indexes"): one value for each
-- field, in every combination, where an array gives each of its elements.
use Rattle.std.specs.Prelude.{ℕ, nat_lt, Bool, true, false, if◌then◌else◌, Some, None, List}
use Rattle.std.specs.Prelude.{[], ◌∷◌, map}
use Rattle.std.specs.List.{flat_map, list_any, count_by}
use Rattle.bson.specs.Tree.{Tree, scalar, null, document, array, Pairs, Items, no_items, item}
use Rattle.bson.specs.Lookup.{lookup}
use Rattle.value_order.specs.Order.{Key, empty_array, value}
use Rattle.path.specs.Parts.{parts_of}
use Rattle.path.specs.Place.{some_passes}
use Rattle.path.specs.Reach.{Reached, reach, items_list}
use Rattle.index.specs.Definition.{Field, Definition}

-- the elements of an array, and a key of its own for an empty one
abbrev pub array_keys : Items → List Key
array_keys no_items = empty_array ∷ []
array_keys (item t ts) = map value (items_list (item t ts))

-- null for Missing, an array's keys, else the value
abbrev pub keys_of : Reached → List Key
keys_of None = value (scalar null) ∷ []
keys_of (Some (array ts)) = array_keys ts
keys_of (Some t) = value t ∷ []

-- nothing reached counts as Missing
abbrev pub or_missing : List Reached → List Reached
or_missing [] = None ∷ []
or_missing (r ∷ rs) = r ∷ rs

-- the keys of a document at a path
abbrev pub field_keys : List ℕ → Pairs → List Key
field_keys path ps = flat_map keys_of (or_missing (reach (parts_of path) (document ps)))

-- the set of all lists of one key of each field, as a list of its members
abbrev pub index_keys : List Field → Pairs → List (List Key)
index_keys [] ps = [] ∷ []
index_keys (f ∷ fs) ps =
    flat_map (λ k. map (λ ks. k ∷ ks) (index_keys fs ps)) (field_keys f.path ps)

-- ---- arrays

-- an array stands on the way down the path by documents, or at its end
abbrev pub meets_array : List (List ℕ) → Tree → Bool
meets_array parts (array ts) = true
meets_array [] t = false
meets_array (name ∷ rest) (scalar s) = false
meets_array (name ∷ rest) (document ps) = some_passes (meets_array rest) (lookup ps name)

abbrev pub field_meets_array : Pairs → Field → Bool
field_meets_array ps f = meets_array (parts_of f.path) (document ps)

-- an array on one of the paths makes an index multikey
abbrev pub is_multikey : List Field → Pairs → Bool
is_multikey fields ps = list_any (field_meets_array ps) fields

-- the indexes, where those are multikey on whose paths the document has an array
abbrev pub noted : Pairs → Definition → Definition
noted d i = if is_multikey i.fields d then record i { is_multi = true } else i

-- arrays on two of them are refused
abbrev pub has_parallel_arrays : List Field → Pairs → Bool
has_parallel_arrays fields ps = nat_lt 1 (count_by (field_meets_array ps) fields)
