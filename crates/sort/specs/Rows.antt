-- Rows worked by hand: the order of a sort, and what is refused.
use Rattle.std.specs.Prelude.{◌≡◌, ℕ, pos, negsuc, zero, false, List, [], ◌∷◌, codes, Result, Ok}
use Rattle.std.specs.Prelude.{Err}
use Rattle.bson.specs.Tree.{Tree, scalar, text, binary, object_id, boolean, date, int32, timestamp}
use Rattle.bson.specs.Tree.{int64, min_key, max_key, document, array, Pairs, no_pairs, no_items}
use Rattle.path.specs.declared.refusal.Refusal.{Refusal}
use Rattle.path.specs.declared.refusal.Refusal.TheVariants as refusals
use Rattle.path.specs.Edits.{if_ok}
use Rattle.filter.specs.Rows.{number, nothing, one, two, single, double}
use Rattle.sort.specs.Sort.{order}
use Rattle.sort.specs.SortReading.{read_sort}

abbrev pub zeros : List ℕ
zeros = 0 ∷ 0 ∷ 0 ∷ 0 ∷ 0 ∷ 0 ∷ 0 ∷ 0 ∷ 0 ∷ 0 ∷ 0 ∷ 0 ∷ []

abbrev pub with : ℕ → Tree → Pairs
with n t = two (codes "_id") (number n) (codes "v") t

-- documents with a value of each class, by their numbers
abbrev pub d1 : Pairs
d1 = with 1 (scalar max_key)

abbrev pub d2 : Pairs
d2 = with 2 (scalar (timestamp 0))

abbrev pub d3 : Pairs
d3 = with 3 (scalar (date (pos 0)))

abbrev pub d4 : Pairs
d4 = with 4 (scalar (boolean false))

abbrev pub d5 : Pairs
d5 = with 5 (scalar (object_id zeros))

abbrev pub d6 : Pairs
d6 = with 6 (scalar (binary 0 []))

abbrev pub d7 : Pairs
d7 = with 7 (array no_items)

abbrev pub d8 : Pairs
d8 = with 8 (document no_pairs)

abbrev pub d9 : Pairs
d9 = with 9 (scalar (text []))

abbrev pub d10 : Pairs
d10 = with 10 (number 5)

abbrev pub d11 : Pairs
d11 = with 11 (scalar (int64 (pos 5)))

abbrev pub d12 : Pairs
d12 = with 12 (nothing)

abbrev pub d13 : Pairs
d13 = with 13 (scalar min_key)

abbrev pub d14 : Pairs
d14 = one (codes "_id") (number 14)

abbrev pub d15 : Pairs
d15 = with 15 (double (number 7) nothing)

abbrev pub d16 : Pairs
d16 = with 16 (single (array no_items))

abbrev pub sixteen : List Pairs
sixteen = d1 ∷ d2 ∷ d3 ∷ d4 ∷ d5 ∷ d6 ∷ d7 ∷ d8 ∷ d9 ∷ d10 ∷ d11 ∷ d12 ∷ d13 ∷ d14 ∷ d15 ∷ d16 ∷ []

abbrev pub sorted_by : Tree → Result (List Pairs) Refusal
sorted_by direction =
    if_ok (read_sort (one (codes "v") direction)) (λ fields. Ok (order fields sixteen))

abbrev pub SortRows : Type 0
SortRows =
    (sorted_by (number 1) ≡ Ok
    (d13 ∷ d7 ∷ d12 ∷ d14 ∷ d15 ∷ d10 ∷ d11 ∷ d9 ∷ d8 ∷ d16 ∷ d6 ∷ d5 ∷ d4 ∷ d3 ∷ d2 ∷ d1 ∷ []))
    × (sorted_by (scalar (int32 (negsuc zero)))
    ≡ Ok (d1 ∷ d2 ∷ d3 ∷ d4 ∷ d5 ∷ d6 ∷ d16 ∷ d8 ∷ d9 ∷ d15 ∷ d10 ∷ d11 ∷ d12 ∷ d14 ∷ d7 ∷ d13
    ∷ []))
    × (read_sort (one (codes "a") (number 2)) ≡ Err refusals.BadValue)
    × (read_sort (one (codes "a") nothing) ≡ Err refusals.TypeMismatch)
