-- The sort that a document spells, or the first misuse from the left.
use Rattle.std.specs.Prelude.{ℕ, ℤ, pos, negsuc, zero, suc, ◌==◌, Bool, true, false, if◌then◌else◌}
use Rattle.std.specs.Prelude.{Result, Ok, Err, List, [], ◌∷◌}
use Rattle.bson.specs.Tree.{Tree, scalar, int32, int64, Pairs, no_pairs, pair}
use Rattle.path.specs.declared.refusal.Refusal.{Refusal}
use Rattle.path.specs.declared.refusal.Refusal.TheVariants as refusals
use Rattle.path.specs.Edits.{if_ok}
use Rattle.filter.specs.Parsing.{path_in}
use Rattle.sort.specs.Sort.{SortField}

abbrev pub direction_of : ℤ → Result Bool Refusal
direction_of (pos n) = if n == 1 then Ok false else Err refusals.BadValue
direction_of (negsuc zero) = Ok true
direction_of (negsuc (suc n)) = Err refusals.BadValue

abbrev pub direction_in : Tree → Result Bool Refusal
direction_in (scalar (int32 z)) = direction_of z
direction_in (scalar (int64 z)) = direction_of z
direction_in t = Err refusals.TypeMismatch

abbrev pub read_field : List ℕ → Tree → Result SortField Refusal
read_field name t =
    if_ok (path_in name) (λ path. if_ok (direction_in t) (λ descending. Ok (path, descending)))

-- at most so many more fields; of one too many nothing is looked at
abbrev pub read_fields : ℕ → Pairs → Result (List SortField) Refusal
read_fields more no_pairs = Ok []
read_fields zero (pair name t ps) = Err refusals.BadValue
read_fields (suc more) (pair name t ps) =
    if_ok (read_field name t) (λ field. if_ok (read_fields more ps) (λ fields. Ok (field ∷ fields)))

abbrev pub read_sort : Pairs → Result (List SortField) Refusal
read_sort ps = read_fields 32 ps
