-- The update that a document spells, or the first misuse from the left. At one path these are
-- looked for in order: a fault of the path, `_id`, the operand, an earlier path of the update that
-- it meets.
use Rattle.std.specs.Prelude.{ℕ, ◌++◌, ◌||◌, Bool, false, if◌then◌else◌, Option, Some, None, Result}
use Rattle.std.specs.Prelude.{Ok, Err, List, [], ◌∷◌}
use Rattle.std.specs.List.{list_any}
use Rattle.bson.specs.Tree.{Tree, document, Pairs, no_pairs, pair}
use Rattle.path.specs.declared.refusal.Refusal.{Refusal}
use Rattle.path.specs.declared.refusal.Refusal.TheVariants as refusals
use Rattle.path.specs.Edits.{if_ok}
use Rattle.path.specs.Parts.{meets}
use Rattle.filter.specs.Parsing.{has_operators}
use Rattle.update_model.specs.Update.{Path, Action, rename, Edit, Update, replacement, edits}
use Rattle.update_model.specs.Update.{paths_of, meets_any}
use Rattle.update_model.specs.Operators.{operator_of, editable_path, read_action}
use Rattle.update_model.specs.declared.operators.Operator.{Operator}

-- ---- paths that meet

-- a path of the one edit is, or leads to, one of the other's, or the other way round
abbrev pub edits_meet : Edit → Edit → Bool
edits_meet a b = list_any (λ path. meets_any path (paths_of b)) (paths_of a)

-- the new path of a rename meets its old one
abbrev pub meets_itself : Path → Action → Bool
meets_itself path (rename new) = meets new path
meets_itself path other = false

abbrev pub conflicts : List Edit → Edit → Bool
conflicts earlier e = list_any (edits_meet e) earlier || meets_itself e.path e.action

-- ---- edits

abbrev pub without_conflict : List Edit → Edit → Result (List Edit) Refusal
without_conflict earlier e =
    if conflicts earlier e then Err refusals.ConflictingUpdateOperators else Ok (earlier ++ e ∷ [])

-- the edits before, and one more
abbrev pub read_edit : Operator → List ℕ → Tree → List Edit → Result (List Edit) Refusal
read_edit operator name t earlier =
    if_ok (editable_path name)
    (λ where_to. if_ok (read_action operator t)
    (λ does. without_conflict earlier (record { path = where_to; action = does })))

abbrev pub read_edits : Operator → Pairs → List Edit → Result (List Edit) Refusal
read_edits operator no_pairs earlier = Ok earlier
read_edits operator (pair name t ps) earlier =
    if_ok (read_edit operator name t earlier) (read_edits operator ps)

abbrev pub known_operator : Option Operator → Result Operator Refusal
known_operator None = Err refusals.BadValue
known_operator (Some operator) = Ok operator

abbrev pub operands_in : Tree → Result Pairs Refusal
operands_in (document ps) = Ok ps
operands_in t = Err refusals.TypeMismatch

abbrev pub read_operator : List ℕ → Tree → List Edit → Result (List Edit) Refusal
read_operator name t earlier =
    if_ok (known_operator (operator_of name))
    (λ operator. if_ok (operands_in t) (λ ps. read_edits operator ps earlier))

abbrev pub read_operators : Pairs → List Edit → Result (List Edit) Refusal
read_operators no_pairs earlier = Ok earlier
read_operators (pair name t ps) earlier = if_ok (read_operator name t earlier) (read_operators ps)

-- operators, where the first name begins with `$`, else a replacement
abbrev pub read_update : Pairs → Result Update Refusal
read_update ps = if has_operators ps then if_ok (read_operators ps []) (λ es. Ok (edits es))
    else Ok (replacement ps)
