-- `update` changes documents of a collection, statement by statement.
use Rattle.std.specs.Prelude.{◌≡◌, ℕ, Bool, false, ◌&&◌, if◌then◌else◌, List, codes, Option, Some}
use Rattle.std.specs.Prelude.{None, Result, Ok, Err}
use Rattle.std.specs.Str.{bytes_eq}
use Rattle.bson.specs.Tree.{Tree, Pairs}
use Rattle.filter.specs.Condition.{Conditions}
use Rattle.filter.specs.Parsing.{read_filter}
use Rattle.update_model.specs.Update.{Update as Change, is_replacement}
use Rattle.update_model.specs.Parsing.{read_update}
use Rattle.outcome.specs.Outcome.{◌>>=◌, unless, or_refused}
use Rattle.path.specs.declared.refusal.Refusal.{Refusal}
use Rattle.path.specs.declared.refusal.Refusal.TheVariants as refusals
use Rattle.command_model.specs.Values.{text_in, bool_in, spelled_in}
use Rattle.command_model.specs.Fields.{CommonFields, read_fields, common_field, no_common}
use Rattle.command_model.specs.Statements.{statements_in, each_of}
use Rattle.command_model.specs.Names.{namespace_of}

-- A statement: a filter, what is made of a document that matches, whether that is done to all of
-- them or to the first, and whether a document is made where none matches.
pub record UpdateStatement : Type 0 where
  pub filter : Conditions
  pub change : Change
  pub upsert : Bool
  pub multi : Bool

pub record Update : Type 0 where
  pub namespace : List ℕ
  pub statements : List UpdateStatement

-- ---- a statement

pub record UpdateStatementFields : Type 0 where
  pub filter : Option Conditions
  pub change : Option Change
  pub upsert : Bool
  pub multi : Bool

abbrev pub no_statement_fields : UpdateStatementFields
no_statement_fields = record { filter = None; change = None; upsert = false; multi = false }

-- whether a document is made where none matches, and whether all are changed
abbrev pub flag_field : UpdateStatementFields → List ℕ → Tree
    → Result UpdateStatementFields Refusal
flag_field found name t =
    if bytes_eq name (codes "upsert") then (do
      upsert ← bool_in t
      Ok (record found { upsert = upsert })) else
    if bytes_eq name (codes "multi") then (do
      multi ← bool_in t
      Ok (record found { multi = multi })) else
    Err refusals.FailedToParse

abbrev pub statement_field : UpdateStatementFields → List ℕ → Tree
    → Result UpdateStatementFields Refusal
statement_field found name t =
    if bytes_eq name (codes "q") then (do
      rules ← spelled_in read_filter t
      Ok (record found { filter = Some rules })) else
    if bytes_eq name (codes "u") then (do
      change ← spelled_in read_update t
      Ok (record found { change = Some change })) else
    flag_field found name t

-- `q` and `u` may not be missing, and a replacement is of one document
abbrev pub read_statement : Pairs → Result UpdateStatement Refusal
read_statement ps = do
  found ← read_fields statement_field no_statement_fields ps
  rules ← or_refused found.filter refusals.FailedToParse
  change ← or_refused found.change refusals.FailedToParse
  unless (is_replacement change && found.multi) refusals.FailedToParse
      (Ok (record { filter = rules; change = change; upsert = found.upsert; multi = found.multi }))

-- ---- the command

pub record UpdateFields : Type 0 where
  pub common : CommonFields
  pub statements : Option (List UpdateStatement)

abbrev pub no_update_fields : UpdateFields
no_update_fields = record { common = no_common; statements = None }

abbrev pub update_statements_in : Tree → Result (List UpdateStatement) Refusal
update_statements_in t = do
  ts ← statements_in t
  each_of (spelled_in read_statement) ts

abbrev pub update_field : UpdateFields → List ℕ → Tree → Result UpdateFields Refusal
update_field found name t =
    if bytes_eq name (codes "updates") then (do
      statements ← update_statements_in t
      Ok (record found { statements = Some statements })) else (do
        common ← common_field found.common name t
        Ok (record found { common = common }))

abbrev pub read_update_command : Tree → Pairs → Result Update Refusal
read_update_command t ps = do
  name ← text_in t
  found ← read_fields update_field no_update_fields ps
  database ← or_refused found.common.database refusals.FailedToParse
  statements ← or_refused found.statements refusals.FailedToParse
  namespace ← namespace_of database name
  Ok (record { namespace = namespace; statements = statements })

-- an update as some document spells it
pub record IsRead (change : Change) : Type 0 where
  pub source : Pairs
  pub reads : read_update source ≡ Ok change
