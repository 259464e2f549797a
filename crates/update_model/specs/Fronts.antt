-- A document with a pair at its front: the one at a place, or one of a value that may stand there.
use Rattle.std.specs.Prelude.{ℕ, ◌≤◌, Option, Some, None, List}
use Rattle.bson.specs.Tree.{Tree, Pairs, pair}
use Rattle.bson.specs.Edits.{pair_at, without_pair}
use Rattle.bson.specs.Lawful.{levels, IsName, IsTree}

abbrev pub before : Option (List ℕ × Tree) → Pairs → Pairs
before None ps = ps
before (Some p) ps = pair p.0 p.1 ps

abbrev pub to_front : Pairs → ℕ → Pairs
to_front ps at = before (pair_at ps at) (without_pair ps at)

-- a value that may stand in a document under this name
pub record IsField (name : List ℕ) (t : Tree) : Type 0 where
  pub named : IsName name
  pub lawful : IsTree t
  pub depth : levels t ≤ 99

abbrev pub MayStand : List ℕ → Option Tree → Type 0
MayStand name None = Unit {0}
MayStand name (Some t) = IsField name t
