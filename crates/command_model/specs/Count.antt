-- `count` asks how many documents of a collection match.
use Rattle.std.specs.Prelude.{ℕ, if◌then◌else◌, List, codes, Option, Some, None, Result, Ok}
use Rattle.std.specs.Prelude.{unwrap_or}
use Rattle.std.specs.Str.{bytes_eq}
use Rattle.bson.specs.Tree.{Tree, Pairs}
use Rattle.filter.specs.Condition.{Conditions, no_conditions}
use Rattle.filter.specs.Parsing.{read_filter}
use Rattle.outcome.specs.Outcome.{◌>>=◌, or_refused}
use Rattle.path.specs.declared.refusal.Refusal.{Refusal}
use Rattle.path.specs.declared.refusal.Refusal.TheVariants as refusals
use Rattle.command_model.specs.Values.{text_in, count_in, spelled_in}
use Rattle.command_model.specs.Fields.{CommonFields, read_fields, common_field, no_common}
use Rattle.command_model.specs.Names.{namespace_of}

-- a filter, how many of what matches are left out, and how many may be counted then (0: all)
pub record Count : Type 0 where
  pub namespace : List ℕ
  pub filter : Conditions
  pub skip : ℕ
  pub limit : ℕ

pub record CountFields : Type 0 where
  pub common : CommonFields
  pub filter : Option Conditions
  pub skip : Option ℕ
  pub limit : Option ℕ

abbrev pub no_count_fields : CountFields
no_count_fields = record { common = no_common; filter = None; skip = None; limit = None }

abbrev pub count_field : CountFields → List ℕ → Tree → Result CountFields Refusal
count_field found name t =
    if bytes_eq name (codes "query") then (do
      rules ← spelled_in read_filter t
      Ok (record found { filter = Some rules })) else
    if bytes_eq name (codes "skip") then (do
      n ← count_in t
      Ok (record found { skip = Some n })) else
    if bytes_eq name (codes "limit") then (do
      n ← count_in t
      Ok (record found { limit = Some n })) else (do
        common ← common_field found.common name t
        Ok (record found { common = common }))

abbrev pub read_count : Tree → Pairs → Result Count Refusal
read_count t ps = do
  name ← text_in t
  found ← read_fields count_field no_count_fields ps
  database ← or_refused found.common.database refusals.FailedToParse
  namespace ← namespace_of database name
  Ok (record {
    namespace = namespace;
    filter = unwrap_or found.filter no_conditions;
    skip = unwrap_or found.skip 0;
    limit = unwrap_or found.limit 0;
  })
