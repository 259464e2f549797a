-- What the types of the crate stand for. A `Path` is the list of its parts, a `Part` its name;
-- `reached` says what a `Reached` is.
use Rattle.std.specs.Prelude.{Option, Some, None}
use Rattle.bson.specs.Tree.{Tree}
use Rattle.bson.specs.View.{tree}
use Rattle.path.specs.declared.reaching.Reached.{Reached}
use Rattle.path.specs.declared.reaching.Reached.TheVariants as reached_values

-- a value, or None for Missing
abbrev pub reached : Reached → Option Tree
reached reached_values.Missing = None
reached (reached_values.Value v) = Some (tree v.now)
