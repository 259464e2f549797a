-- A number below 256 for each name, its mark: names with different marks differ, so most names are
-- known to be new without a comparison. What number it is promises nothing to a caller.
use Rattle.std.specs.Prelude.{◌≡◌, ℕ, ◌+◌, ◌*◌, ◌^◌, ◌/◌, ◌%◌, Bool, false, List, [], ◌∷◌}
use Rattle.std.specs.Prelude.{get_or}
use Rattle.bson.specs.Lookup.{stands_in}

-- bytes, taken into a number of 64 bits one after the other
abbrev pub mixed : ℕ → List ℕ → ℕ
mixed m [] = m
mixed m (b ∷ bytes) = mixed (((m * 9) % 2 ^ 64 + b) % 2 ^ 64) bytes

-- its highest eight bits, once all bits had a part in them
unfoldable pub mark : ℕ → ℕ
mark m = ((m * 0x9e3779b97f4a7c15) % 2 ^ 64) / 2 ^ 56 % 256

abbrev pub name_mark : List ℕ → ℕ
name_mark name = mark (mixed 0 name)

-- a name whose mark isn't set is none of these
abbrev pub AreMarked : List (List ℕ) → List Bool → Type 0
AreMarked names marks = (name : List ℕ) → get_or marks (name_mark name) false ≡ false
    → stands_in names name ≡ false
