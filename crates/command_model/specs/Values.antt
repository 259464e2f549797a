-- The values that fields take.
use Rattle.std.specs.Prelude.{ℕ, ℤ, pos, negsuc, Bool, List, Option, Some, None, Result, Ok, Err}
use Rattle.bson.specs.Tree.{Tree, scalar, document, array, text, boolean, int32, int64, Pairs}
use Rattle.bson.specs.Tree.{Items}
use Rattle.outcome.specs.Outcome.{◌>>=◌, or_refused}
use Rattle.path.specs.declared.refusal.Refusal.{Refusal}
use Rattle.path.specs.declared.refusal.Refusal.TheVariants as refusals

abbrev pub text_of : Tree → Option (List ℕ)
text_of (scalar (text s)) = Some s
text_of other = None

abbrev pub items_of : Tree → Option Items
items_of (array ts) = Some ts
items_of other = None

abbrev pub pairs_of : Tree → Option Pairs
pairs_of (document ps) = Some ps
pairs_of other = None

abbrev pub bool_of : Tree → Option Bool
bool_of (scalar (boolean b)) = Some b
bool_of other = None

-- the number of a cursor
abbrev pub id_of : Tree → Option ℤ
id_of (scalar (int64 z)) = Some z
id_of other = None

-- a value of another type is refused
abbrev pub text_in : Tree → Result (List ℕ) Refusal
text_in t = or_refused (text_of t) refusals.TypeMismatch

abbrev pub document_in : Tree → Result Pairs Refusal
document_in t = or_refused (pairs_of t) refusals.TypeMismatch

abbrev pub bool_in : Tree → Result Bool Refusal
bool_in t = or_refused (bool_of t) refusals.TypeMismatch

abbrev pub id_in : Tree → Result ℤ Refusal
id_in t = or_refused (id_of t) refusals.TypeMismatch

-- a number that is not negative; a negative one is out of range
abbrev pub count_of : ℤ → Result ℕ Refusal
count_of (pos n) = Ok n
count_of (negsuc n) = Err refusals.BadValue

abbrev pub count_in : Tree → Result ℕ Refusal
count_in (scalar (int32 z)) = count_of z
count_in (scalar (int64 z)) = count_of z
count_in other = Err refusals.TypeMismatch

-- what a document spells; a value of another type spells nothing
abbrev pub spelled_in : {X : Type 0} → (Pairs → Result X Refusal) → Tree → Result X Refusal
spelled_in read t = do
  ps ← document_in t
  read ps
