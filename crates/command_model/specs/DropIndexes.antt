-- `dropIndexes` takes indexes of a collection away.
use Rattle.std.specs.Prelude.{ℕ, if◌then◌else◌, List, codes, Option, Some, None, Result, Ok}
use Rattle.std.specs.Str.{bytes_eq}
use Rattle.bson.specs.Tree.{Tree, Pairs}
use Rattle.outcome.specs.Outcome.{◌>>=◌, or_refused}
use Rattle.path.specs.declared.refusal.Refusal.{Refusal}
use Rattle.path.specs.declared.refusal.Refusal.TheVariants as refusals
use Rattle.command_model.specs.Values.{text_in}
use Rattle.command_model.specs.Fields.{CommonFields, read_fields, common_field, no_common}
use Rattle.command_model.specs.Names.{namespace_of}

-- the index of this name, or all but that on `_id`
pub data DroppedIndexes : Type 0 where
  named : List ℕ → DroppedIndexes
  all : DroppedIndexes

-- `*` stands for all, also where an index is called so
abbrev pub dropped_by : List ℕ → DroppedIndexes
dropped_by name = if bytes_eq name (codes "*") then all else named name

pub record DropIndexes : Type 0 where
  pub namespace : List ℕ
  pub indexes : DroppedIndexes

pub record DropIndexesFields : Type 0 where
  pub common : CommonFields
  pub index : Option (List ℕ)

abbrev pub no_drop_indexes_fields : DropIndexesFields
no_drop_indexes_fields = record { common = no_common; index = None }

abbrev pub drop_indexes_field : DropIndexesFields → List ℕ → Tree → Result DropIndexesFields Refusal
drop_indexes_field found name t =
    if bytes_eq name (codes "index") then (do
      index ← text_in t
      Ok (record found { index = Some index })) else (do
        common ← common_field found.common name t
        Ok (record found { common = common }))

abbrev pub read_drop_indexes : Tree → Pairs → Result DropIndexes Refusal
read_drop_indexes t ps = do
  name ← text_in t
  found ← read_fields drop_indexes_field no_drop_indexes_fields ps
  database ← or_refused found.common.database refusals.FailedToParse
  index ← or_refused found.index refusals.FailedToParse
  namespace ← namespace_of database name
  Ok (record { namespace = namespace; indexes = dropped_by index })
