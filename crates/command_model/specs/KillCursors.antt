-- `killCursors` ends cursors on a collection.
use Rattle.std.specs.Prelude.{ℕ, ℤ, if◌then◌else◌, List, codes, Option, Some, None, Result, Ok}
use Rattle.std.specs.Str.{bytes_eq}
use Rattle.bson.specs.Tree.{Tree, Pairs}
use Rattle.outcome.specs.Outcome.{◌>>=◌, or_refused}
use Rattle.path.specs.declared.refusal.Refusal.{Refusal}
use Rattle.path.specs.declared.refusal.Refusal.TheVariants as refusals
use Rattle.command_model.specs.Values.{text_in, id_in}
use Rattle.command_model.specs.Fields.{CommonFields, read_fields, common_field, no_common}
use Rattle.command_model.specs.Statements.{statements_in, each_of}
use Rattle.command_model.specs.Names.{namespace_of}

-- the numbers of cursors, from 1 to 1,000 of them
pub record KillCursors : Type 0 where
  pub namespace : List ℕ
  pub cursors : List ℤ

pub record KillCursorsFields : Type 0 where
  pub common : CommonFields
  pub cursors : Option (List ℤ)

abbrev pub no_kill_cursors_fields : KillCursorsFields
no_kill_cursors_fields = record { common = no_common; cursors = None }

abbrev pub ids_in : Tree → Result (List ℤ) Refusal
ids_in t = do
  ts ← statements_in t
  each_of id_in ts

abbrev pub kill_cursors_field : KillCursorsFields → List ℕ → Tree → Result KillCursorsFields Refusal
kill_cursors_field found name t =
    if bytes_eq name (codes "cursors") then (do
      cursors ← ids_in t
      Ok (record found { cursors = Some cursors })) else (do
        common ← common_field found.common name t
        Ok (record found { common = common }))

abbrev pub read_kill_cursors : Tree → Pairs → Result KillCursors Refusal
read_kill_cursors t ps = do
  name ← text_in t
  found ← read_fields kill_cursors_field no_kill_cursors_fields ps
  database ← or_refused found.common.database refusals.FailedToParse
  cursors ← or_refused found.cursors refusals.FailedToParse
  namespace ← namespace_of database name
  Ok (record { namespace = namespace; cursors = cursors })
