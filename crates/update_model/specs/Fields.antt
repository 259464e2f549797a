-- `$set` puts a value at a path, and `$unset` takes away what stands there: a field goes, an
-- element becomes null, and where the path isn't there nothing changes.
use Rattle.std.specs.Prelude.{Result, Ok}
use Rattle.bson.specs.Tree.{Tree, Pairs}
use Rattle.path.specs.declared.refusal.Refusal.{Refusal}
use Rattle.path.specs.Edits.{set_at, cut_at}
use Rattle.update_model.specs.Update.{Path}

abbrev pub set_field : Path → Tree → Pairs → Result Pairs Refusal
set_field path t ps = set_at path t ps

abbrev pub unset_field : Path → Pairs → Result Pairs Refusal
unset_field path ps = Ok (cut_at path ps)
