-- What stages are given: documents, texts, numbers. Whatever else stands there is not understood.
use Rattle.std.specs.Prelude.{ℕ, ℤ, pos, negsuc, ◌==◌, nat_lt, if◌then◌else◌, Option, Some, None}
use Rattle.std.specs.Prelude.{Result, Ok, Err, List, [], ◌∷◌}
use Rattle.bson.specs.Tree.{Tree, scalar, text, int32, int64, document, Pairs, no_pairs, pair}
use Rattle.outcome.specs.Outcome.{◌>>=◌, unless, or_refused}
use Rattle.path.specs.Parts.{path_of}
use Rattle.path.specs.declared.fault.PathFault.{PathFault}
use Rattle.path.specs.declared.refusal.Refusal.{Refusal}
use Rattle.path.specs.declared.refusal.Refusal.TheVariants as refusals

abbrev pub document_in : Tree → Result Pairs Refusal
document_in (document ps) = Ok ps
document_in t = Err refusals.FailedToParse

abbrev pub text_in : Tree → Result (List ℕ) Refusal
text_in (scalar (text s)) = Ok s
text_in t = Err refusals.FailedToParse

abbrev pub no_less : ℕ → ℤ → Result ℕ Refusal
no_less least (pos n) = unless (nat_lt n least) refusals.FailedToParse (Ok n)
no_less least (negsuc n) = Err refusals.FailedToParse

-- an int32 or an int64 that is no less than this
abbrev pub number_in : ℕ → Tree → Result ℕ Refusal
number_in least (scalar (int32 z)) = no_less least z
number_in least (scalar (int64 z)) = no_less least z
number_in least t = Err refusals.FailedToParse

-- the name and the value of a document that has no other
abbrev pub only_pair : Pairs → Result (List ℕ × Tree) Refusal
only_pair no_pairs = Err refusals.FailedToParse
only_pair (pair name t no_pairs) = Ok (name, t)
only_pair (pair name t (pair other u ps)) = Err refusals.FailedToParse

abbrev pub only_pair_in : Tree → Result (List ℕ × Tree) Refusal
only_pair_in t = document_in t >>= only_pair

-- ---- "$path"

-- what stands behind the `$`, where the text begins with it
abbrev pub dollar_path : List ℕ → Option (List ℕ)
dollar_path [] = None
dollar_path (b ∷ bs) = if b == 36 then Some bs else None

abbrev pub or_malformed : Result (List (List ℕ)) PathFault → Result (List (List ℕ)) Refusal
or_malformed (Ok path) = Ok path
or_malformed (Err e) = Err refusals.FailedToParse

-- the path that stands behind a `$`
abbrev pub source_path : List ℕ → Result (List (List ℕ)) Refusal
source_path name = or_malformed (path_of name)

-- the path of a text that begins with `$`
abbrev pub dollar_path_in : Tree → Result (List (List ℕ)) Refusal
dollar_path_in t = text_in t
    >>= (λ s. or_refused (dollar_path s) refusals.FailedToParse >>= source_path)
