-- `explain` asks how a `find` looks for its documents.
use Rattle.std.specs.Prelude.{ℕ, if◌then◌else◌, List, codes, Result, Ok, Err}
use Rattle.std.specs.Str.{bytes_eq}
use Rattle.bson.specs.Tree.{Tree, Pairs, no_pairs, pair}
use Rattle.outcome.specs.Outcome.{◌>>=◌, or_refused}
use Rattle.path.specs.declared.refusal.Refusal.{Refusal}
use Rattle.path.specs.declared.refusal.Refusal.TheVariants as refusals
use Rattle.command_model.specs.Values.{text_in, document_in}
use Rattle.command_model.specs.Fields.{read_fields, common_field, no_common}
use Rattle.command_model.specs.Find.{Query, FindFields, no_find_fields, find_field, query_of}
use Rattle.command_model.specs.Names.{namespace_of}

pub record Explain : Type 0 where
  pub namespace : List ℕ
  pub query : Query

-- The `find` has the fields of one but for the database, which stands beside it.
abbrev pub explained_field : FindFields → List ℕ → Tree → Result FindFields Refusal
explained_field found name t =
    if bytes_eq name (codes "$db") then Err refusals.FailedToParse else find_field found name t

-- the name of its collection, and what it asks for
abbrev pub read_explained_find : Tree → Pairs → Result (List ℕ × Query) Refusal
read_explained_find t ps = do
  name ← text_in t
  found ← read_fields explained_field no_find_fields ps
  Ok (name, query_of found)

-- the document's first name says what is explained, and that is a `find`
abbrev pub read_explained : Pairs → Result (List ℕ × Query) Refusal
read_explained no_pairs = Err refusals.FailedToParse
read_explained (pair name t ps) =
    if bytes_eq name (codes "find") then read_explained_find t ps else Err refusals.FailedToParse

abbrev pub read_explain : Tree → Pairs → Result Explain Refusal
read_explain t ps = do
  asked ← document_in t
  explained ← read_explained asked
  found ← read_fields common_field no_common ps
  database ← or_refused found.database refusals.FailedToParse
  namespace ← namespace_of database explained.0
  Ok (record { namespace = namespace; query = explained.1 })
