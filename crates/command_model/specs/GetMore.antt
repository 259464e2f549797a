-- `getMore` asks for the next batch of a cursor.
use Rattle.std.specs.Prelude.{ℕ, ℤ, ◌==◌, if◌then◌else◌, List, codes, Option, Some, None, Result}
use Rattle.std.specs.Prelude.{Ok}
use Rattle.std.specs.Str.{bytes_eq}
use Rattle.bson.specs.Tree.{Tree, Pairs}
use Rattle.outcome.specs.Outcome.{◌>>=◌, unless, or_refused}
use Rattle.path.specs.declared.refusal.Refusal.{Refusal}
use Rattle.path.specs.declared.refusal.Refusal.TheVariants as refusals
use Rattle.command_model.specs.Values.{text_in, id_in, count_in}
use Rattle.command_model.specs.Fields.{CommonFields, read_fields, common_field, no_common}
use Rattle.command_model.specs.Names.{namespace_of}

-- the number of the cursor, its namespace, and how many documents may go into the batch
pub record GetMore : Type 0 where
  pub id : ℤ
  pub namespace : List ℕ
  pub batch_size : Option ℕ

pub record GetMoreFields : Type 0 where
  pub common : CommonFields
  pub collection : Option (List ℕ)
  pub batch_size : Option ℕ

abbrev pub no_get_more_fields : GetMoreFields
no_get_more_fields = record { common = no_common; collection = None; batch_size = None }

-- a batch has at least one document
abbrev pub batch_size_in : Tree → Result ℕ Refusal
batch_size_in t = do
  n ← count_in t
  unless (n == 0) refusals.BadValue (Ok n)

abbrev pub get_more_field : GetMoreFields → List ℕ → Tree → Result GetMoreFields Refusal
get_more_field found name t =
    if bytes_eq name (codes "collection") then (do
      collection ← text_in t
      Ok (record found { collection = Some collection })) else
    if bytes_eq name (codes "batchSize") then (do
      n ← batch_size_in t
      Ok (record found { batch_size = Some n })) else (do
        common ← common_field found.common name t
        Ok (record found { common = common }))

-- the collection may not be missing
abbrev pub read_get_more : Tree → Pairs → Result GetMore Refusal
read_get_more t ps = do
  id ← id_in t
  found ← read_fields get_more_field no_get_more_fields ps
  database ← or_refused found.common.database refusals.FailedToParse
  collection ← or_refused found.collection refusals.FailedToParse
  namespace ← namespace_of database collection
  Ok (record { id = id; namespace = namespace; batch_size = found.batch_size })
