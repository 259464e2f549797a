-- `insert` stores documents in a collection.
use Rattle.std.specs.Prelude.{ℕ, if◌then◌else◌, List, codes, map, Option, Some, None, Result, Ok}
use Rattle.std.specs.Str.{bytes_eq}
use Rattle.std.specs.Borrow.{Bor}
use Rattle.bson.specs.Tree.{Tree, Pairs}
use Rattle.outcome.specs.Outcome.{◌>>=◌, or_refused}
use Rattle.path.specs.declared.refusal.Refusal.{Refusal}
use Rattle.path.specs.declared.refusal.Refusal.TheVariants as refusals
use Rattle.command_model.specs.Values.{text_in, document_in}
use Rattle.command_model.specs.Fields.{CommonFields, read_fields, common_field, no_common}
use Rattle.command_model.specs.Statements.{statements_in, each_of}
use Rattle.command_model.specs.Names.{namespace_of}

pub record Insert : Type 0 where
  pub namespace : List ℕ
  pub documents : List Pairs

-- the documents that these refer to
abbrev pub documents_at : List (Bor Pairs) → List Pairs
documents_at ds = map (λ d. d.now) ds

pub record InsertFields : Type 0 where
  pub common : CommonFields
  pub documents : Option (List Pairs)

abbrev pub no_insert_fields : InsertFields
no_insert_fields = record { common = no_common; documents = None }

abbrev pub documents_in : Tree → Result (List Pairs) Refusal
documents_in t = do
  ts ← statements_in t
  each_of document_in ts

abbrev pub insert_field : InsertFields → List ℕ → Tree → Result InsertFields Refusal
insert_field found name t =
    if bytes_eq name (codes "documents") then (do
      documents ← documents_in t
      Ok (record found { documents = Some documents })) else (do
        common ← common_field found.common name t
        Ok (record found { common = common }))

abbrev pub read_insert : Tree → Pairs → Result Insert Refusal
read_insert t ps = do
  name ← text_in t
  found ← read_fields insert_field no_insert_fields ps
  database ← or_refused found.common.database refusals.FailedToParse
  documents ← or_refused found.documents refusals.FailedToParse
  namespace ← namespace_of database name
  Ok (record { namespace = namespace; documents = documents })
