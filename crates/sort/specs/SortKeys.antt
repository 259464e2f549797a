-- What a sort compares documents by, and what the code's types stand for.
use Rattle.std.specs.Prelude.{ℕ, ◌+◌, if◌then◌else◌, Bool, Option, Some, None, List, [], ◌∷◌, map}
use Rattle.std.specs.Prelude.{drop}
use Rattle.std.specs.declared.cmp.Ordering.{Ordering}
use Rattle.std.specs.declared.cmp.Ordering.TheVariants.{Equal}
use Rattle.std.specs.Ordering.{ordering_then, on}
use Rattle.bson.specs.Tree.{scalar, null, Pairs}
use Rattle.value_order.specs.Order.{Key, value, key_cmp}
use Rattle.value_order.specs.View.{key_of}
use Rattle.sort.specs.Sort.{SortField, precedes, sort_key, in_direction, compare_by, sorted}
use Rattle.sort.specs.declared.sort.Field.{Field}
use Rattle.sort.specs.declared.sorting.Ranked.{Ranked}

abbrev pub field_of : Field → SortField
field_of f = (f.path, f.descending)

-- ---- one key

-- the first of what was found before and one key more
abbrev pub earlier : Bool → Option Key → Key → Key
earlier descending None k = k
earlier descending (Some first) k = if precedes descending (key_cmp k first) then k else first

-- and of keys
abbrev pub first_of : Bool → Option Key → List Key → Option Key
first_of descending found [] = found
first_of descending found (k ∷ ks) = first_of descending (Some (earlier descending found k)) ks

-- ---- a document's keys

abbrev pub document_keys : List SortField → Pairs → List Key
document_keys fields ps = map (λ field. sort_key field ps) fields

abbrev pub first_or_null : List Key → Key
first_or_null [] = value (scalar null)
first_or_null (k ∷ ks) = k

abbrev pub keys_cmp : List SortField → List Key → List Key → Ordering
keys_cmp [] a b = Equal
keys_cmp (field ∷ fields) a b = ordering_then
    (in_direction field.1 (key_cmp (first_or_null a) (first_or_null b)))
    (keys_cmp fields (drop 1 a) (drop 1 b))

abbrev pub keys_held : Ranked → List Key
keys_held r = map key_of r.keys.items

abbrev pub ranked_cmp : List SortField → Ranked → Ranked → Ordering
ranked_cmp fields = on keys_held (keys_cmp fields)

-- ---- documents with their keys and places

-- the documents, each with its place, from this place on
abbrev pub numbered : ℕ → List Pairs → List (Pairs × ℕ)
numbered n [] = []
numbered n (ps ∷ documents) = (ps, n) ∷ numbered (n + 1) documents

abbrev pub with_keys : List SortField → Pairs × ℕ → List Key × (Pairs × ℕ)
with_keys fields p = (document_keys fields p.0, p)

abbrev pub ranked_of : Ranked → List Key × (Pairs × ℕ)
ranked_of r = (keys_held r, (r.document.now, r.place))

-- their places, in the order of the sort
abbrev pub arranged : List SortField → List Pairs → List (Pairs × ℕ)
arranged fields documents = sorted (on (λ p. p.0) (compare_by fields)) (numbered 0 documents)
