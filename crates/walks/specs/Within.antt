-- Documents that a file gave, and the limits of those that are stored.
use Rattle.std.specs.Prelude.{Bool, not, is_some}
use Rattle.bson.specs.Tree.{Pairs}
use Rattle.update_model.specs.Stored.{limits_fault}

-- the document is within the limits of those that are stored
abbrev pub is_within : Pairs → Bool
is_within d = not (is_some (limits_fault 65535 d))
