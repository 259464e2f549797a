-- What an update is: a document that takes another's place, or a list of edits, each of which does
-- something at a path (MongoDB manual, "Update Operators").
use Rattle.std.specs.Prelude.{ℕ, ℤ, Bool, true, false, List, [], ◌∷◌}
use Rattle.std.specs.List.{list_any}
use Rattle.bson.specs.Tree.{Tree, Pairs, Items}
use Rattle.path.specs.Parts.{meets}
use Rattle.filter.specs.Condition.{Condition}

abbrev pub Path : Type 0
Path = List (List ℕ)

-- an int32 or an int64
pub data Number : Type 0 where
  int32 : ℤ → Number
  int64 : ℤ → Number

pub data Action : Type 0 where
  set : Tree → Action
  unset : Action
  increment : Number → Action
  -- no more than the value, or no less
  at_most : Tree → Action
  at_least : Tree → Action
  push : Items → Action
  pull : Condition → Action
  rename : Path → Action

pub record Edit : Type 0 where
  pub path : Path
  pub action : Action

pub data Update : Type 0 where
  replacement : Pairs → Update
  edits : List Edit → Update

abbrev pub is_replacement : Update → Bool
is_replacement (replacement ps) = true
is_replacement (edits es) = false

-- the paths that an edit changes
abbrev pub paths_with : Path → Action → List Path
paths_with path (rename new) = path ∷ new ∷ []
paths_with path other = path ∷ []

abbrev pub paths_of : Edit → List Path
paths_of e = paths_with e.path e.action

abbrev pub meets_any : Path → List Path → Bool
meets_any path others = list_any (meets path) others
