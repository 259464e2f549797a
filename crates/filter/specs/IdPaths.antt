-- The path `_id`, and paths that begin with this name.
use Rattle.std.specs.Prelude.{ℕ, Bool, false, List, [], ◌∷◌, codes}
use Rattle.std.specs.Str.{bytes_eq}

abbrev pub is_id : List (List ℕ) → Bool
is_id [] = false
is_id (name ∷ []) = bytes_eq name (codes "_id")
is_id (name ∷ next ∷ rest) = false

abbrev pub begins_with_id : List (List ℕ) → Bool
begins_with_id [] = false
begins_with_id (name ∷ rest) = bytes_eq name (codes "_id")
