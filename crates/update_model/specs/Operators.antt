-- The table of the operators: of each its name, how its operand is read, and what it does at a
-- path.
use Rattle.std.specs.Prelude.{ℕ, if◌then◌else◌, Option, Some, None, Result, Ok, Err, List, codes}
use Rattle.std.specs.Str.{bytes_eq}
use Rattle.bson.specs.Tree.{Tree, scalar, text, Pairs}
use Rattle.path.specs.declared.refusal.Refusal.{Refusal}
use Rattle.path.specs.declared.refusal.Refusal.TheVariants as refusals
use Rattle.path.specs.Edits.{if_ok, write_at}
use Rattle.filter.specs.Elements.{read_element_condition}
use Rattle.filter.specs.IdPaths.{begins_with_id}
use Rattle.filter.specs.Parsing.{path_in}
use Rattle.update_model.specs.Update.{Path, Action, set, unset, increment, at_most, at_least, push}
use Rattle.update_model.specs.Update.{pull, rename}
use Rattle.update_model.specs.Fields.{set_field, unset_field}
use Rattle.update_model.specs.Numbers.{number_in, incremented}
use Rattle.update_model.specs.Bounds.{lowered, raised}
use Rattle.update_model.specs.Arrays.{items_to_push, pushed, pull_at}
use Rattle.update_model.specs.Renames.{rename_at}
use Rattle.update_model.specs.declared.operators.Operator.{Operator}
use Rattle.update_model.specs.declared.operators.Operator.TheVariants as operators

abbrev pub operator_of : List ℕ → Option Operator
operator_of name =
    if bytes_eq name (codes "$set") then Some operators.Set else
    if bytes_eq name (codes "$unset") then Some operators.Unset else
    if bytes_eq name (codes "$inc") then Some operators.Increment else
    if bytes_eq name (codes "$min") then Some operators.Least else
    if bytes_eq name (codes "$max") then Some operators.Greatest else
    if bytes_eq name (codes "$push") then Some operators.Push else
    if bytes_eq name (codes "$pull") then Some operators.Pull else
    if bytes_eq name (codes "$rename") then Some operators.Rename else
    None

-- a path that an update may change: it doesn't begin with `_id`
abbrev pub no_id : Path → Result Path Refusal
no_id path = if begins_with_id path then Err refusals.ImmutableField else Ok path

abbrev pub editable_path : List ℕ → Result Path Refusal
editable_path name = if_ok (path_in name) no_id

abbrev pub new_path : Tree → Result Path Refusal
new_path (scalar (text name)) = editable_path name
new_path t = Err refusals.BadValue

abbrev pub read_action : Operator → Tree → Result Action Refusal
read_action operators.Set t = Ok (set t)
read_action operators.Unset t = Ok unset
read_action operators.Increment t = if_ok (number_in t) (λ n. Ok (increment n))
read_action operators.Least t = Ok (at_most t)
read_action operators.Greatest t = Ok (at_least t)
read_action operators.Push t = if_ok (items_to_push t) (λ ts. Ok (push ts))
read_action operators.Pull t = if_ok (read_element_condition t) (λ c. Ok (pull c))
read_action operators.Rename t = if_ok (new_path t) (λ path. Ok (rename path))

abbrev pub apply_action : Path → Action → Pairs → Result Pairs Refusal
apply_action path (set t) ps = set_field path t ps
apply_action path unset ps = unset_field path ps
apply_action path (increment n) ps = write_at (incremented n) path ps
apply_action path (at_most t) ps = write_at (lowered t) path ps
apply_action path (at_least t) ps = write_at (raised t) path ps
apply_action path (push ts) ps = write_at (pushed ts) path ps
apply_action path (pull condition) ps = pull_at path condition ps
apply_action path (rename new) ps = rename_at path new ps
