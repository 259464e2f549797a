-- Sorts: what one is, the keys of a document, and the order that it gives to documents.
use Rattle.std.specs.Prelude.{ℕ, Bool, true, false, if◌then◌else◌, Some, None, List, [], ◌∷◌, map}
use Rattle.std.specs.List.{flat_map}
use Rattle.std.specs.declared.cmp.Ordering.{Ordering}
use Rattle.std.specs.declared.cmp.Ordering.TheVariants.{Less, Equal, Greater}
use Rattle.std.specs.Ordering.{ordering_then}
use Rattle.bson.specs.Tree.{scalar, null, document, array, Pairs, Items, no_items, item}
use Rattle.value_order.specs.Order.{Key, empty_array, value, key_cmp}
use Rattle.path.specs.Reach.{Reached, reach, items_list}

-- a path, and whether it is descending
abbrev pub SortField : Type 0
SortField = List (List ℕ) × Bool

-- ---- keys

abbrev pub array_keys : Items → List Key
array_keys no_items = empty_array ∷ []
array_keys (item t ts) = map value (items_list (item t ts))

-- null for Missing, the elements of an array, the class EmptyArray for an empty one, else the value
abbrev pub keys_of : Reached → List Key
keys_of None = value (scalar null) ∷ []
keys_of (Some (array ts)) = array_keys ts
keys_of (Some t) = value t ∷ []

abbrev pub precedes : Bool → Ordering → Bool
precedes true Greater = true
precedes false Less = true
precedes descending o = false

-- the first of the keys, in the direction of the sort
abbrev pub first_key : Bool → Key → List Key → Key
first_key descending k [] = k
first_key descending k (l ∷ ls) =
    first_key descending (if precedes descending (key_cmp l k) then l else k) ls

-- null, where nothing was reached
abbrev pub key_among : Bool → List Key → Key
key_among descending [] = value (scalar null)
key_among descending (k ∷ ks) = first_key descending k ks

abbrev pub sort_key : SortField → Pairs → Key
sort_key field ps = key_among field.1 (flat_map keys_of (reach field.0 (document ps)))

-- ---- order

abbrev pub in_direction : Bool → Ordering → Ordering
in_direction false o = o
in_direction true Less = Greater
in_direction true Equal = Equal
in_direction true Greater = Less

abbrev pub compare_by : List SortField → Pairs → Pairs → Ordering
compare_by [] a b = Equal
compare_by (field ∷ fields) a b = ordering_then
    (in_direction field.1 (key_cmp (sort_key field a) (sort_key field b))) (compare_by fields a b)

abbrev pub put_before : {A : Type 0} → Ordering → A → A → List A → List A → List A
put_before Greater x y inserted ys = y ∷ inserted
put_before o x y inserted ys = x ∷ y ∷ ys

-- before the first that it isn't above, so that what ties keeps its order
abbrev pub insert_in_order : {A : Type 0} → (A → A → Ordering) → A → List A → List A
insert_in_order cmp x [] = x ∷ []
insert_in_order cmp x (y ∷ ys) = put_before (cmp x y) x y (insert_in_order cmp x ys) ys

abbrev pub sorted : {A : Type 0} → (A → A → Ordering) → List A → List A
sorted cmp [] = []
sorted cmp (x ∷ xs) = insert_in_order cmp x (sorted cmp xs)

abbrev pub order : List SortField → List Pairs → List Pairs
order fields documents = sorted (compare_by fields) documents
