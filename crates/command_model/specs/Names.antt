-- Names of databases and collections, and the namespaces that they make.
use Rattle.std.specs.Prelude.{ℕ, ◌+◌, Bool, ◌||◌, ◌==◌, nat_lt, nat_eq, List, [], ◌∷◌, ◌++◌, length}
use Rattle.std.specs.Prelude.{codes, Result, Ok}
use Rattle.std.specs.List.{list_any, starts_with}
use Rattle.outcome.specs.Outcome.{unless}
use Rattle.path.specs.declared.refusal.Refusal.{Refusal}
use Rattle.path.specs.declared.refusal.Refusal.TheVariants as refusals

-- bytes that no database name has: / \ . " $ space and zero
abbrev pub is_bad_byte : ℕ → Bool
is_bad_byte b = list_any (λ x. x == b) (47 ∷ 92 ∷ 46 ∷ 34 ∷ 36 ∷ 32 ∷ 0 ∷ [])

-- a database name has 1 to 63 bytes
abbrev pub is_bad_database : List ℕ → Bool
is_bad_database name = length name == 0 || nat_lt 63 (length name) || list_any is_bad_byte name

-- a collection name is not empty, has no `$` and no zero, and doesn't begin with `system.`
abbrev pub is_bad_collection : List ℕ → Bool
is_bad_collection name =
    length name == 0 || list_any (λ b. b == 36 || b == 0) name
    || starts_with nat_eq name (codes "system.")

-- the database, a dot and the collection: at most 255 bytes
abbrev pub is_too_long : List ℕ → List ℕ → Bool
is_too_long database name = nat_lt 255 (length database + 1 + length name)

abbrev pub namespace_of : List ℕ → List ℕ → Result (List ℕ) Refusal
namespace_of database name =
    unless (is_bad_database database || is_bad_collection name || is_too_long database name)
    refusals.InvalidNamespace
    (Ok (database ++ 46 ∷ name))
