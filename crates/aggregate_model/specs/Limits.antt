-- What a document that a stage gives may be: at most so many bytes, and at most 90 levels, itself
-- among them.
use Rattle.std.specs.Prelude.{ℕ, suc, nat_lt, if◌then◌else◌, Option, Some, None, Result, Ok, Err}
use Rattle.std.specs.Prelude.{List, [], ◌∷◌, length}
use Rattle.bson.specs.Tree.{Pairs}
use Rattle.bson.specs.Lawful.{pairs_levels}
use Rattle.bson.specs.Spelling.{frame_of, pairs_bytes}
use Rattle.path.specs.declared.refusal.Refusal.{Refusal}
use Rattle.path.specs.declared.refusal.Refusal.TheVariants as refusals

-- the size is looked at first
abbrev pub limit_fault : ℕ → Pairs → Option Refusal
limit_fault limit ps =
    if nat_lt limit (length (frame_of (pairs_bytes ps))) then Some refusals.BSONObjectTooLarge else
    if nat_lt 90 (suc (pairs_levels ps)) then Some refusals.BadValue else
    None

abbrev pub else_fault : Option Refusal → Option Refusal → Option Refusal
else_fault (Some refusal) later = Some refusal
else_fault None later = later

-- the fault of the first document that has one
abbrev pub first_fault : ℕ → List Pairs → Option Refusal
first_fault limit [] = None
first_fault limit (ps ∷ documents) = else_fault (limit_fault limit ps) (first_fault limit documents)

abbrev pub if_faultless : {X : Type 0} → Option Refusal → X → Result X Refusal
if_faultless None x = Ok x
if_faultless (Some refusal) x = Err refusal

abbrev pub within_limits : ℕ → List Pairs → Result (List Pairs) Refusal
within_limits limit documents = if_faultless (first_fault limit documents) documents
