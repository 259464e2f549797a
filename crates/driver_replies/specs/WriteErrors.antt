-- How drivers are told why a write was refused (mongodb/specifications, crud and server write
-- commands): the refusal of a statement stands in `writeErrors`, beside its index, and the reply is
-- that of a command that was done. A refusal that isn't one of a statement stays the command's.
use Rattle.std.specs.Prelude.{ℕ, ℤ, pos, negsuc, ◌==◌, if◌then◌else◌, List, [], ◌∷◌, codes, Option}
use Rattle.std.specs.Prelude.{Some, None}
use Rattle.std.specs.List.{list_any}
use Rattle.bson.specs.Tree.{Tree, scalar, int32, Pairs, no_pairs, pair}
use Rattle.driver_replies.specs.Fields.{int, words}

-- refusals that are the command's: of its bytes, its collection, its cursor and its name, of more
-- than there may be, and of the server
abbrev pub command_codes : List ℕ
command_codes = 22 ∷ 26 ∷ 43 ∷ 59 ∷ 73 ∷ 9002 ∷ 9003 ∷ 9004 ∷ 9005 ∷ []

-- the number of a refusal that is a statement's
abbrev pub statement_code : ℤ → Option ℤ
statement_code (pos n) = if list_any (λ k. n == k) command_codes then None else Some (pos n)
statement_code (negsuc n) = Some (negsuc n)

abbrev pub refused_statement : Option Tree → Option ℤ
refused_statement (Some (scalar (int32 z))) = statement_code z
refused_statement other = None

abbrev pub error_document : ℤ → ℤ → List ℕ → Pairs
error_document index number sentence =
    pair (codes "index") (int index)
    (pair (codes "code") (int number)
    (pair (codes "errmsg") (words sentence) no_pairs))
