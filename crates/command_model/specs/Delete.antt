-- `delete` takes documents away from a collection, statement by statement.
use Rattle.std.specs.Prelude.{ℕ, zero, suc, Bool, true, false, if◌then◌else◌, List, codes, Option}
use Rattle.std.specs.Prelude.{Some, None, Result, Ok, Err}
use Rattle.std.specs.Str.{bytes_eq}
use Rattle.bson.specs.Tree.{Tree, Pairs}
use Rattle.filter.specs.Condition.{Conditions}
use Rattle.filter.specs.Parsing.{read_filter}
use Rattle.outcome.specs.Outcome.{◌>>=◌, or_refused}
use Rattle.path.specs.declared.refusal.Refusal.{Refusal}
use Rattle.path.specs.declared.refusal.Refusal.TheVariants as refusals
use Rattle.command_model.specs.Values.{text_in, count_in, spelled_in}
use Rattle.command_model.specs.Fields.{CommonFields, read_fields, common_field, no_common}
use Rattle.command_model.specs.Statements.{statements_in, each_of}
use Rattle.command_model.specs.Names.{namespace_of}

-- a statement: a filter, and whether it takes away the first document that matches, or all
pub record Deletion : Type 0 where
  pub filter : Conditions
  pub only_first : Bool

pub record Delete : Type 0 where
  pub namespace : List ℕ
  pub deletions : List Deletion

-- ---- a statement

pub record DeletionFields : Type 0 where
  pub filter : Option Conditions
  pub only_first : Option Bool

abbrev pub no_deletion_fields : DeletionFields
no_deletion_fields = record { filter = None; only_first = None }

-- 0 stands for all documents, 1 for the first
abbrev pub only_first_of : ℕ → Result Bool Refusal
only_first_of zero = Ok false
only_first_of (suc zero) = Ok true
only_first_of (suc (suc n)) = Err refusals.BadValue

abbrev pub only_first_in : Tree → Result Bool Refusal
only_first_in t = do
  n ← count_in t
  only_first_of n

abbrev pub deletion_field : DeletionFields → List ℕ → Tree → Result DeletionFields Refusal
deletion_field found name t =
    if bytes_eq name (codes "q") then (do
      rules ← spelled_in read_filter t
      Ok (record found { filter = Some rules })) else
    if bytes_eq name (codes "limit") then (do
      only_first ← only_first_in t
      Ok (record found { only_first = Some only_first })) else
    Err refusals.FailedToParse

-- neither field may be missing
abbrev pub read_deletion : Pairs → Result Deletion Refusal
read_deletion ps = do
  found ← read_fields deletion_field no_deletion_fields ps
  rules ← or_refused found.filter refusals.FailedToParse
  only_first ← or_refused found.only_first refusals.FailedToParse
  Ok (record { filter = rules; only_first = only_first })

-- ---- the command

pub record DeleteFields : Type 0 where
  pub common : CommonFields
  pub deletions : Option (List Deletion)

abbrev pub no_delete_fields : DeleteFields
no_delete_fields = record { common = no_common; deletions = None }

abbrev pub deletions_in : Tree → Result (List Deletion) Refusal
deletions_in t = do
  ts ← statements_in t
  each_of (spelled_in read_deletion) ts

abbrev pub delete_field : DeleteFields → List ℕ → Tree → Result DeleteFields Refusal
delete_field found name t =
    if bytes_eq name (codes "deletes") then (do
      deletions ← deletions_in t
      Ok (record found { deletions = Some deletions })) else (do
        common ← common_field found.common name t
        Ok (record found { common = common }))

abbrev pub read_delete : Tree → Pairs → Result Delete Refusal
read_delete t ps = do
  name ← text_in t
  found ← read_fields delete_field no_delete_fields ps
  database ← or_refused found.common.database refusals.FailedToParse
  deletions ← or_refused found.deletions refusals.FailedToParse
  namespace ← namespace_of database name
  Ok (record { namespace = namespace; deletions = deletions })
