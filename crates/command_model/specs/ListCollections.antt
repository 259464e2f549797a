-- `listCollections` asks for the names of a database's collections. It has no fields of its own;
-- its value is read over.
use Rattle.std.specs.Prelude.{ℕ, List, Result, Ok}
use Rattle.bson.specs.Tree.{Tree, Pairs}
use Rattle.outcome.specs.Outcome.{◌>>=◌, unless, or_refused}
use Rattle.path.specs.declared.refusal.Refusal.{Refusal}
use Rattle.path.specs.declared.refusal.Refusal.TheVariants as refusals
use Rattle.command_model.specs.Fields.{read_fields, common_field, no_common}
use Rattle.command_model.specs.Names.{is_bad_database}

pub record ListCollections : Type 0 where
  pub database : List ℕ

abbrev pub read_list_collections : Tree → Pairs → Result ListCollections Refusal
read_list_collections t ps = do
  found ← read_fields common_field no_common ps
  database ← or_refused found.database refusals.FailedToParse
  unless (is_bad_database database) refusals.InvalidNamespace
      (Ok (record { database = database }))
