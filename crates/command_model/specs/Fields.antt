-- The fields of a command or of a statement, read in the order written.
use Rattle.std.specs.Prelude.{ℕ, if◌then◌else◌, List, codes, Option, Some, None, Result, Ok, Err}
use Rattle.std.specs.Str.{bytes_eq}
use Rattle.bson.specs.Tree.{Tree, Pairs, no_pairs, pair}
use Rattle.outcome.specs.Outcome.{◌>>=◌}
use Rattle.path.specs.declared.refusal.Refusal.{Refusal}
use Rattle.path.specs.declared.refusal.Refusal.TheVariants as refusals
use Rattle.command_model.specs.Values.{text_in}

-- the fields in the order written, up to the first that is refused
abbrev pub read_fields : {F : Type 0} → (F → List ℕ → Tree → Result F Refusal) → F → Pairs
    → Result F Refusal
read_fields read found no_pairs = Ok found
read_fields read found (pair name t ps) = do
  next ← read found name t
  read_fields read next ps

-- Two fields may stand in each command: its database `$db`, and a `comment` that is read over.
pub record CommonFields : Type 0 where
  pub database : Option (List ℕ)

abbrev pub no_common : CommonFields
no_common = record { database = None }

abbrev pub common_field : CommonFields → List ℕ → Tree → Result CommonFields Refusal
common_field found name t =
    if bytes_eq name (codes "$db") then (do
      s ← text_in t
      Ok (record { database = Some s })) else
    if bytes_eq name (codes "comment") then Ok found else
    Err refusals.FailedToParse
