-- Sets of paths none of which meets another, in order.
use Rattle.std.specs.Prelude.{◌≡◌, ℕ, ◌||◌, false, List, [], ◌∷◌}
use Rattle.std.specs.List.{list_any}
use Rattle.path.specs.Parts.{meets}

-- no path meets one behind it
abbrev pub AreApart : List (List (List ℕ)) → Type 0
AreApart [] = Unit {0}
AreApart (path ∷ paths) = (list_any (meets path) paths ≡ false) × AreApart paths

-- The new paths are the old ones and one more: whatever meets one of them meets that one or an old
-- one.
abbrev pub HasOneMore : List (List ℕ) → List (List (List ℕ)) → List (List (List ℕ)) → Type 0
HasOneMore path old new =
    (other : List (List ℕ))
    → list_any (meets other) new ≡ (meets other path || list_any (meets other) old)
