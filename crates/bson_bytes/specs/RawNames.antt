-- The names of elements as they stand, one behind the other: no name is judged as text, no value is
-- looked into.
use Rattle.std.specs.Prelude.{◌≡◌, ℕ, zero, suc, ◌+◌, ◌<◌, false, nat_lt, if◌then◌else◌, Option}
use Rattle.std.specs.Prelude.{Some, None, List, [], ◌∷◌, ◌++◌, length, take, drop, Result, Ok, Err}
use Rattle.bson.specs.Lookup.{stands_in}
use Rattle.bson_bytes.specs.Decoding.{zero_at, kind_of}
use Rattle.bson_bytes.specs.Raw.{len_at}
use Rattle.bson_bytes.specs.declared.fault.BsonFault.{BsonFault}
use Rattle.bson.specs.declared.kind.Kind.{Kind}

-- behind a type byte: the name, and the elements behind the value
abbrev pub name_of : Result Kind BsonFault → List ℕ → Option (List ℕ × List ℕ)
name_of (Err e) bytes = None
name_of (Ok k) bytes =
    if nat_lt (zero_at bytes) (length bytes)
    then Some (
      take (zero_at bytes) bytes,
      drop (len_at k (drop (zero_at bytes + 1) bytes)) (drop (zero_at bytes + 1) bytes),
    )
    else None

-- the first name, and the elements behind its own
abbrev pub next_name : List ℕ → Option (List ℕ × List ℕ)
next_name [] = None
next_name (type ∷ bytes) = name_of (kind_of type) bytes

abbrev pub name_and : (List ℕ → List (List ℕ)) → Option (List ℕ × List ℕ) → List (List ℕ)
name_and others None = []
name_and others (Some x) = x.0 ∷ others x.1

-- at most so many
unfoldable pub names_by : ℕ → List ℕ → List (List ℕ)
names_by zero bytes = []
names_by (suc most) bytes = name_and (names_by most) (next_name bytes)

-- all of them
abbrev pub names_in : List ℕ → List (List ℕ)
names_in bytes = names_by (length bytes) bytes

-- none of the first so many names stood before
abbrev pub AreNew : ℕ → List (List ℕ) → Type 0
AreNew n names = (earlier : List (List ℕ)) (name : List ℕ) (later : List (List ℕ))
    → names ≡ earlier ++ name ∷ later → length earlier < n → stands_in earlier name ≡ false

-- none of the first so many of these names is one of the others
abbrev pub AreOthers : ℕ → List (List ℕ) → List (List ℕ) → Type 0
AreOthers n others names = (earlier : List (List ℕ)) (name : List ℕ) (later : List (List ℕ))
    → names ≡ earlier ++ name ∷ later → length earlier < n → stands_in others name ≡ false

-- none of the first n names stood among the first m of those before it
abbrev pub AreApart : ℕ → ℕ → List (List ℕ) → Type 0
AreApart m n names = (earlier : List (List ℕ)) (name : List ℕ) (later : List (List ℕ))
    → names ≡ earlier ++ name ∷ later → length earlier < n → stands_in (take m earlier) name ≡ false
