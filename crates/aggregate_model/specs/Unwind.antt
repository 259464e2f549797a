-- `$unwind` gives a document for each element of the array at a path, with the element in the
-- array's place (MongoDB manual, "$unwind"). A value that is no array counts as one element. Where
-- nothing or null stands there, and where the path leads through an array, there is none.
use Rattle.std.specs.Prelude.{ℕ, if◌then◌else◌, Option, Some, None, Result, Ok, List, [], ◌∷◌}
use Rattle.bson.specs.Tree.{Tree, scalar, null, document, array, Pairs}
use Rattle.path.specs.Edits.{set_at}
use Rattle.outcome.specs.Outcome.{◌>>=◌}
use Rattle.path.specs.Place.{value_at, passes_array}
use Rattle.path.specs.Reach.{items_list}
use Rattle.path.specs.declared.refusal.Refusal.{Refusal}
use Rattle.aggregate_model.specs.Each.{just, each}

abbrev pub Path : Type 0
Path = List (List ℕ)

abbrev pub with_element : Path → Pairs → Tree → Result (List Pairs) Refusal
with_element path ps t = just (set_at path t ps)

-- each element in the place of the array, for which null stands first
abbrev pub with_elements : Path → Pairs → List Tree → Result (List Pairs) Refusal
with_elements path ps elements =
    set_at path (scalar null) ps >>= (λ shell. each (with_element path shell) elements)

abbrev pub unwound_value : Path → Pairs → Option Tree → Result (List Pairs) Refusal
unwound_value path ps None = Ok []
unwound_value path ps (Some (scalar null)) = Ok []
unwound_value path ps (Some (array ts)) = with_elements path ps (items_list ts)
unwound_value path ps (Some t) = Ok (ps ∷ [])

abbrev pub unwound_document : Path → Pairs → Result (List Pairs) Refusal
unwound_document path ps = if passes_array path (document ps) then Ok []
    else unwound_value path ps (value_at path (document ps))

abbrev pub unwound : Path → List Pairs → Result (List Pairs) Refusal
unwound path documents = each (unwound_document path) documents
