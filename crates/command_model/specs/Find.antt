-- `find` asks for the documents of a collection that match.
use Rattle.std.specs.Prelude.{ℕ, if◌then◌else◌, List, [], codes, Option, Some, None, Result, Ok}
use Rattle.std.specs.Prelude.{false, unwrap_or}
use Rattle.std.specs.Str.{bytes_eq}
use Rattle.bson.specs.Tree.{Tree, Pairs}
use Rattle.filter.specs.Condition.{Conditions, no_conditions}
use Rattle.filter.specs.Parsing.{read_filter}
use Rattle.sort.specs.Sort.{SortField}
use Rattle.sort.specs.SortReading.{read_sort}
use Rattle.projection.specs.Projection.{Projection}
use Rattle.projection.specs.ProjectionReading.{read_projection}
use Rattle.outcome.specs.Outcome.{◌>>=◌, or_refused}
use Rattle.path.specs.declared.refusal.Refusal.{Refusal}
use Rattle.path.specs.declared.refusal.Refusal.TheVariants as refusals
use Rattle.command_model.specs.Values.{text_in, count_in, spelled_in}
use Rattle.command_model.specs.Fields.{CommonFields, read_fields, common_field, no_common}
use Rattle.command_model.specs.Names.{namespace_of}

-- a filter, the order of what matches, how many of it are left out at the front, how many may come
-- then (0: all), and what is given of each
pub record Query : Type 0 where
  pub filter : Conditions
  pub sort : List SortField
  pub skip : ℕ
  pub limit : ℕ
  pub projection : Projection

pub record Find : Type 0 where
  pub namespace : List ℕ
  pub query : Query
  pub batch_size : Option ℕ

pub record FindFields : Type 0 where
  pub common : CommonFields
  pub filter : Option Conditions
  pub sort : Option (List SortField)
  pub projection : Option Projection
  pub skip : Option ℕ
  pub limit : Option ℕ
  pub batch_size : Option ℕ

abbrev pub no_find_fields : FindFields
no_find_fields = record {
  common = no_common;
  filter = None;
  sort = None;
  projection = None;
  skip = None;
  limit = None;
  batch_size = None;
}

-- a field that says how many documents come, or one that every command may have
abbrev pub window_field : FindFields → List ℕ → Tree → Result FindFields Refusal
window_field found name t =
    if bytes_eq name (codes "skip") then (do
      n ← count_in t
      Ok (record found { skip = Some n })) else
    if bytes_eq name (codes "limit") then (do
      n ← count_in t
      Ok (record found { limit = Some n })) else
    if bytes_eq name (codes "batchSize") then (do
      n ← count_in t
      Ok (record found { batch_size = Some n })) else (do
        common ← common_field found.common name t
        Ok (record found { common = common }))

abbrev pub projection_field : FindFields → Tree → Result FindFields Refusal
projection_field found t = do
  projection ← spelled_in read_projection t
  Ok (record found { projection = Some projection })

abbrev pub find_field : FindFields → List ℕ → Tree → Result FindFields Refusal
find_field found name t =
    if bytes_eq name (codes "filter") then (do
      rules ← spelled_in read_filter t
      Ok (record found { filter = Some rules })) else
    if bytes_eq name (codes "sort") then (do
      fields ← spelled_in read_sort t
      Ok (record found { sort = Some fields })) else
    if bytes_eq name (codes "projection") then projection_field found t else
    window_field found name t

-- A missing filter is met by all, a missing sort changes no order, and a missing projection leaves
-- all.
abbrev pub query_of : FindFields → Query
query_of found = record {
  filter = unwrap_or found.filter no_conditions;
  sort = unwrap_or found.sort [];
  skip = unwrap_or found.skip 0;
  limit = unwrap_or found.limit 0;
  projection = unwrap_or found.projection (false, []);
}

abbrev pub read_find : Tree → Pairs → Result Find Refusal
read_find t ps = do
  name ← text_in t
  found ← read_fields find_field no_find_fields ps
  database ← or_refused found.common.database refusals.FailedToParse
  namespace ← namespace_of database name
  Ok (record { namespace = namespace; query = query_of found; batch_size = found.batch_size })
