-- Commands whose value names a collection, and which have no further fields.
use Rattle.std.specs.Prelude.{ℕ, List, Result}
use Rattle.bson.specs.Tree.{Tree, Pairs}
use Rattle.outcome.specs.Outcome.{◌>>=◌, or_refused}
use Rattle.path.specs.declared.refusal.Refusal.{Refusal}
use Rattle.path.specs.declared.refusal.Refusal.TheVariants as refusals
use Rattle.command_model.specs.Values.{text_in}
use Rattle.command_model.specs.Fields.{read_fields, common_field, no_common}
use Rattle.command_model.specs.Names.{namespace_of}

-- the namespace of the collection
abbrev pub read_alone : Tree → Pairs → Result (List ℕ) Refusal
read_alone t ps = do
  name ← text_in t
  found ← read_fields common_field no_common ps
  database ← or_refused found.database refusals.FailedToParse
  namespace_of database name
