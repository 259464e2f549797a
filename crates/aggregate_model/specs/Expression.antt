-- What a group is made of for each document: a constant, or the value of `"$path"`.
use Rattle.std.specs.Prelude.{ℕ, Option, Some, None, Result, Ok, Err, List}
use Rattle.std.specs.Option.{unwrap_or}
use Rattle.bson.specs.Tree.{Tree, scalar, text, null, document, array, Pairs}
use Rattle.outcome.specs.Outcome.{◌>>=◌}
use Rattle.path.specs.declared.refusal.Refusal.{Refusal}
use Rattle.path.specs.declared.refusal.Refusal.TheVariants as refusals
use Rattle.aggregate_model.specs.Operands.{dollar_path, source_path}
use Rattle.aggregate_model.specs.PathValue.{path_value}

pub data Expression : Type 0 where
  constant : Tree → Expression
  source : List (List ℕ) → Expression

abbrev pub text_expression : List ℕ → Option (List ℕ) → Result Expression Refusal
text_expression s None = Ok (constant (scalar (text s)))
text_expression s (Some name) = source_path name >>= (λ path. Ok (source path))

-- a constant that is no document and no array, or a text that begins with `$`
abbrev pub read_expression : Tree → Result Expression Refusal
read_expression (document ps) = Err refusals.FailedToParse
read_expression (array ts) = Err refusals.FailedToParse
read_expression (scalar (text s)) = text_expression s (dollar_path s)
read_expression (scalar s) = Ok (constant (scalar s))

abbrev pub expression_value : Expression → Pairs → Option Tree
expression_value (constant t) ps = Some t
expression_value (source path) ps = path_value path (document ps)

abbrev pub or_null : Option Tree → Tree
or_null o = unwrap_or o (scalar null)
