-- What a path, an expression or the `_id` of a group gives of a document.
use Rattle.std.specs.Prelude.{Option, Some, None}
use Rattle.bson.specs.Tree.{Tree}
use Rattle.bson.specs.View.{tree}
use Rattle.aggregate.specs.declared.group_ids.IdValue.{IdValue}
use Rattle.aggregate.specs.declared.group_ids.IdValue.TheVariants as values
use Rattle.aggregate.specs.declared.path_value.Found.{Found}
use Rattle.aggregate.specs.declared.path_value.Found.TheVariants as found

abbrev pub found_of : Found → Option Tree
found_of found.Missing = None
found_of (found.There v) = Some (tree v.now)
found_of (found.Made v) = Some (tree v)

abbrev pub id_value_of : IdValue → Tree
id_value_of (values.There v) = tree v.now
id_value_of (values.Made v) = tree v
