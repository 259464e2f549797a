-- The value of a name in a document. Names are distinct, so the first that fits is the one.
use Rattle.std.specs.Prelude.{ℕ, Bool, List, Option, Some, None, if◌then◌else◌}
use Rattle.std.specs.Str.{bytes_eq}
use Rattle.std.specs.List.{list_any}
use Rattle.bson.specs.Tree.{Tree, Pairs, no_pairs, pair}

abbrev pub lookup : Pairs → List ℕ → Option Tree
lookup no_pairs name = None
lookup (pair other t ps) name = if bytes_eq name other then Some t else lookup ps name

-- the name stood before
abbrev pub stands_in : List (List ℕ) → List ℕ → Bool
stands_in earlier name = list_any (bytes_eq name) earlier
