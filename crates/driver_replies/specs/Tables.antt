-- Names that are looked up in tables.
use Rattle.std.specs.Prelude.{ℕ, List, [], ◌∷◌, map, Option, Some, None, if◌then◌else◌}
use Rattle.std.specs.Borrow.{Bor}
use Rattle.std.specs.Str.{bytes_eq}

-- what stands beside the first word that is the name
abbrev pub named : {X : Type 0} → List (Bor (List ℕ) × X) → List ℕ → Option X
named [] name = None
named (row ∷ rows) name = if bytes_eq name row.0.now then Some row.1 else named rows name

-- the same beside each of these names
abbrev pub each : {X : Type 0} → X → List (List ℕ) → List (List ℕ × X)
each x names = map (λ name. (name, x)) names

-- what stands beside the first of these names that is the name
abbrev pub beside : {X : Type 0} → List (List ℕ × X) → List ℕ → Option X
beside [] name = None
beside (row ∷ rows) name = if bytes_eq name row.0 then Some row.1 else beside rows name
