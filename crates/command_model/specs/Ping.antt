-- `ping` has no fields of its own. Its value is read over.
use Rattle.bson.specs.Tree.{Tree, Pairs}
use Rattle.std.specs.Prelude.{Result, Ok}
use Rattle.outcome.specs.Outcome.{◌>>=◌, unless, or_refused}
use Rattle.path.specs.declared.refusal.Refusal.{Refusal}
use Rattle.path.specs.declared.refusal.Refusal.TheVariants as refusals
use Rattle.command_model.specs.Fields.{read_fields, common_field, no_common}
use Rattle.command_model.specs.Names.{is_bad_database}

-- what stands beside a command that has no fields of its own
abbrev pub check_common : Pairs → Result (Unit {0}) Refusal
check_common ps = do
  found ← read_fields common_field no_common ps
  database ← or_refused found.database refusals.FailedToParse
  unless (is_bad_database database) refusals.InvalidNamespace (Ok tt)

abbrev pub read_ping : Tree → Pairs → Result (Unit {0}) Refusal
read_ping t ps = check_common ps
