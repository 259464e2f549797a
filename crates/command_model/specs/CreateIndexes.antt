-- `createIndexes` makes indexes of a collection.
use Rattle.std.specs.Prelude.{ℕ, if◌then◌else◌, List, codes, Option, Some, None, Result, Ok}
use Rattle.std.specs.Str.{bytes_eq}
use Rattle.bson.specs.Tree.{Tree, Pairs}
use Rattle.outcome.specs.Outcome.{◌>>=◌, or_refused}
use Rattle.path.specs.declared.refusal.Refusal.{Refusal}
use Rattle.path.specs.declared.refusal.Refusal.TheVariants as refusals
use Rattle.command_model.specs.Values.{text_in, spelled_in}
use Rattle.command_model.specs.Fields.{CommonFields, read_fields, common_field, no_common}
use Rattle.command_model.specs.Statements.{some_in, each_of}
use Rattle.command_model.specs.Names.{namespace_of}
use Rattle.command_model.specs.NewIndex.{NewIndex, read_new_index}

-- at least one index, in the order written
pub record CreateIndexes : Type 0 where
  pub namespace : List ℕ
  pub indexes : List NewIndex

pub record CreateIndexesFields : Type 0 where
  pub common : CommonFields
  pub indexes : Option (List NewIndex)

abbrev pub no_create_indexes_fields : CreateIndexesFields
no_create_indexes_fields = record { common = no_common; indexes = None }

abbrev pub new_indexes_in : Tree → Result (List NewIndex) Refusal
new_indexes_in t = do
  ts ← some_in t
  each_of (spelled_in read_new_index) ts

abbrev pub create_indexes_field : CreateIndexesFields → List ℕ → Tree
    → Result CreateIndexesFields Refusal
create_indexes_field found name t =
    if bytes_eq name (codes "indexes") then (do
      indexes ← new_indexes_in t
      Ok (record found { indexes = Some indexes })) else (do
        common ← common_field found.common name t
        Ok (record found { common = common }))

abbrev pub read_create_indexes : Tree → Pairs → Result CreateIndexes Refusal
read_create_indexes t ps = do
  name ← text_in t
  found ← read_fields create_indexes_field no_create_indexes_fields ps
  database ← or_refused found.common.database refusals.FailedToParse
  indexes ← or_refused found.indexes refusals.FailedToParse
  namespace ← namespace_of database name
  Ok (record { namespace = namespace; indexes = indexes })
