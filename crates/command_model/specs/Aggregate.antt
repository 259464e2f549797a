-- `aggregate` asks what a pipeline makes of the documents of a collection.
use Rattle.std.specs.Prelude.{ℕ, if◌then◌else◌, List, codes, Option, Some, None, Result, Ok, Err}
use Rattle.std.specs.Str.{bytes_eq}
use Rattle.bson.specs.Tree.{Tree, Pairs}
use Rattle.aggregate_model.specs.Stage.{Stage}
use Rattle.aggregate_model.specs.Pipeline.{read_pipeline}
use Rattle.outcome.specs.Outcome.{◌>>=◌, or_refused}
use Rattle.path.specs.Reach.{items_list}
use Rattle.path.specs.declared.refusal.Refusal.{Refusal}
use Rattle.path.specs.declared.refusal.Refusal.TheVariants as refusals
use Rattle.command_model.specs.Values.{text_in, count_in, items_of, spelled_in}
use Rattle.command_model.specs.Fields.{CommonFields, read_fields, common_field, no_common}
use Rattle.command_model.specs.Names.{namespace_of}

-- the stages, and how many documents may go into the first batch
pub record Aggregate : Type 0 where
  pub namespace : List ℕ
  pub pipeline : List Stage
  pub batch_size : Option ℕ

-- ---- the document of the cursor, which may say how many documents go into the first batch

pub record CursorFields : Type 0 where
  pub batch_size : Option ℕ

abbrev pub no_cursor_fields : CursorFields
no_cursor_fields = record { batch_size = None }

abbrev pub cursor_field : CursorFields → List ℕ → Tree → Result CursorFields Refusal
cursor_field found name t =
    if bytes_eq name (codes "batchSize") then (do
      n ← count_in t
      Ok (record { batch_size = Some n })) else
    Err refusals.FailedToParse

abbrev pub read_cursor : Pairs → Result CursorFields Refusal
read_cursor ps = read_fields cursor_field no_cursor_fields ps

-- ---- the command

abbrev pub stages_in : Tree → Result (List Stage) Refusal
stages_in t = do
  ts ← or_refused (items_of t) refusals.TypeMismatch
  read_pipeline (items_list ts)

pub record AggregateFields : Type 0 where
  pub common : CommonFields
  pub pipeline : Option (List Stage)
  pub cursor : Option CursorFields

abbrev pub no_aggregate_fields : AggregateFields
no_aggregate_fields = record { common = no_common; pipeline = None; cursor = None }

abbrev pub aggregate_field : AggregateFields → List ℕ → Tree → Result AggregateFields Refusal
aggregate_field found name t =
    if bytes_eq name (codes "pipeline") then (do
      stages ← stages_in t
      Ok (record found { pipeline = Some stages })) else
    if bytes_eq name (codes "cursor") then (do
      cursor ← spelled_in read_cursor t
      Ok (record found { cursor = Some cursor })) else (do
        common ← common_field found.common name t
        Ok (record found { common = common }))

-- the pipeline and the cursor's document may not be missing
abbrev pub read_aggregate : Tree → Pairs → Result Aggregate Refusal
read_aggregate t ps = do
  name ← text_in t
  found ← read_fields aggregate_field no_aggregate_fields ps
  database ← or_refused found.common.database refusals.FailedToParse
  pipeline ← or_refused found.pipeline refusals.FailedToParse
  cursor ← or_refused found.cursor refusals.FailedToParse
  namespace ← namespace_of database name
  Ok (record { namespace = namespace; pipeline = pipeline; batch_size = cursor.batch_size })
