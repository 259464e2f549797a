-- The filter that a document spells, or the first misuse from the left.
use Rattle.std.specs.Prelude.{ℕ, if◌then◌else◌, Bool, true, false, Option, Some, None, Result, Ok}
use Rattle.std.specs.Prelude.{Err, List, map, codes}
use Rattle.std.specs.Str.{bytes_eq}
use Rattle.bson.specs.Tree.{Tree, scalar, null, boolean, min_key, max_key, document, array, Pairs}
use Rattle.bson.specs.Tree.{no_pairs, pair, Items, no_items, item}
use Rattle.bson.specs.Kinds.{kind_byte}
use Rattle.path.specs.declared.fault.PathFault.{PathFault}
use Rattle.path.specs.declared.refusal.Refusal.{Refusal}
use Rattle.path.specs.declared.refusal.Refusal.TheVariants as refusals
use Rattle.path.specs.FaultNames.{fault_refusal}
use Rattle.path.specs.Parts.{path_of, begins_with_dollar}
use Rattle.path.specs.Edits.{if_ok}
use Rattle.filter.specs.declared.operator.Operator.{Operator}
use Rattle.filter.specs.declared.operator.Operator.TheVariants as operators
use Rattle.filter.specs.declared.condition.Comparison.{Comparison}
use Rattle.filter.specs.declared.condition.Comparison.TheVariants as comparisons
use Rattle.filter.specs.Condition.{equal, ordered, there, of_kinds, size, Condition, all, any}
use Rattle.filter.specs.Condition.{not_all, not_any, at, is, element, element_document, Conditions}
use Rattle.filter.specs.Condition.{no_conditions, condition, equals}
use Rattle.filter.specs.Words.{operator_of, all_kinds, size_in}

-- ---- names and operands

abbrev pub or_refusal : Result (List (List ℕ)) PathFault → Result (List (List ℕ)) Refusal
or_refusal (Ok path) = Ok path
or_refusal (Err e) = Err (fault_refusal e)

abbrev pub path_in : List ℕ → Result (List (List ℕ)) Refusal
path_in name = or_refusal (path_of name)

abbrev pub just : Condition → Conditions
just r = condition r no_conditions

-- the first name begins with `$`
abbrev pub has_operators : Pairs → Bool
has_operators no_pairs = false
has_operators (pair name t ps) = begins_with_dollar name

abbrev pub order_operand : Comparison → Tree → Result Condition Refusal
order_operand c (scalar null) = Err refusals.BadValue
order_operand c (scalar min_key) = Err refusals.BadValue
order_operand c (scalar max_key) = Err refusals.BadValue
order_operand c t = Ok (is (ordered c t))

abbrev pub array_in : Tree → Result Items Refusal
array_in (array ts) = Ok ts
array_in t = Err refusals.TypeMismatch

abbrev pub among : (Conditions → Condition) → Tree → Result Condition Refusal
among make t = if_ok (array_in t) (λ ts. Ok (make (equals ts)))

-- an empty list matches nothing
abbrev pub every : Conditions → Condition
every no_conditions = any no_conditions
every (condition r rs) = all (condition r rs)

abbrev pub exists : Tree → Result Condition Refusal
exists (scalar (boolean true)) = Ok (is there)
exists (scalar (boolean false)) = Ok (not_all (just (is there)))
exists t = Err refusals.TypeMismatch

abbrev pub read_operation : Operator → Tree → Result Condition Refusal
read_operation operators.Equal t = Ok (is (equal t))
read_operation operators.Above t = order_operand comparisons.Above t
read_operation operators.AtLeast t = order_operand comparisons.AtLeast t
read_operation operators.Below t = order_operand comparisons.Below t
read_operation operators.AtMost t = order_operand comparisons.AtMost t
read_operation operators.In t = among any t
read_operation operators.Exists t = exists t
read_operation operators.Type t = if_ok (all_kinds t) (λ ks. Ok (is (of_kinds (map kind_byte ks))))
read_operation operators.All t = among every t
read_operation operators.Size t = if_ok (size_in t) (λ n. Ok (is (size n)))
read_operation operators.NotEqual t = Ok (not_all (just (is (equal t))))
read_operation operators.NotIn t = among not_any t

abbrev pub read_known : Option Operator → Tree → Result Condition Refusal
read_known None t = Err refusals.BadValue
read_known (Some o) t = read_operation o t

abbrev pub is_empty_list : Items → Bool
is_empty_list no_items = true
is_empty_list (item t ts) = false

-- ---- filters and operator documents

-- a list of filters, or a path with what is asked there
abbrev pub named_condition : List ℕ → Result Conditions Refusal → Result Conditions Refusal
    → Result Condition Refusal
named_condition name members operand =
    if bytes_eq name (codes "$and") then if_ok members (λ rs. Ok (all rs)) else
    if bytes_eq name (codes "$or") then if_ok members (λ rs. Ok (any rs)) else
    if bytes_eq name (codes "$nor") then if_ok members (λ rs. Ok (not_any rs)) else
    if_ok (path_in name) (λ path. if_ok operand (λ rs. Ok (at path rs)))

abbrev pub operation : List ℕ → Result Condition Refusal → Result Condition Refusal → Tree
    → Result Condition Refusal
operation name inner negation t =
    if bytes_eq name (codes "$elemMatch") then inner else
    if bytes_eq name (codes "$not") then negation else
    read_known (operator_of name) t

abbrev mutual
  pub read_filter : Pairs → Result Conditions Refusal
  read_filter no_pairs = Ok no_conditions
  read_filter (pair name t ps) = if_ok (named_condition name (read_members t) (read_operand t))
      (λ r. if_ok (read_filter ps) (λ rs. Ok (condition r rs)))

  -- a list of filters that isn't empty
  pub read_members : Tree → Result Conditions Refusal
  read_members (array ts) = if is_empty_list ts then Err refusals.BadValue else read_filters ts
  read_members (document ps) = Err refusals.TypeMismatch
  read_members (scalar s) = Err refusals.TypeMismatch

  pub read_filters : Items → Result Conditions Refusal
  read_filters no_items = Ok no_conditions
  read_filters (item t ts) =
      if_ok (read_member t) (λ r. if_ok (read_filters ts) (λ rs. Ok (condition r rs)))

  pub read_member : Tree → Result Condition Refusal
  read_member (document ps) = if_ok (read_filter ps) (λ rs. Ok (all rs))
  read_member (array ts) = Err refusals.TypeMismatch
  read_member (scalar s) = Err refusals.TypeMismatch

  -- an operator document, or a value to be equal to
  pub read_operand : Tree → Result Conditions Refusal
  read_operand (document ps) =
      if has_operators ps then read_operators ps else Ok (just (is (equal (document ps))))
  read_operand (array ts) = Ok (just (is (equal (array ts))))
  read_operand (scalar s) = Ok (just (is (equal (scalar s))))

  pub read_operators : Pairs → Result Conditions Refusal
  read_operators no_pairs = Ok no_conditions
  read_operators (pair name t ps) = if_ok (operation name (read_element t) (read_not t) t)
      (λ r. if_ok (read_operators ps) (λ rs. Ok (condition r rs)))

  pub read_element : Tree → Result Condition Refusal
  read_element (document ps) = if has_operators ps
      then if_ok (read_operators ps) (λ rs. Ok (element rs))
      else if_ok (read_filter ps) (λ rs. Ok (element_document rs))
  read_element (array ts) = Err refusals.TypeMismatch
  read_element (scalar s) = Err refusals.TypeMismatch

  pub read_not : Tree → Result Condition Refusal
  read_not (document ps) = if has_operators ps
      then if_ok (read_operators ps) (λ rs. Ok (not_all rs)) else Err refusals.BadValue
  read_not (array ts) = Err refusals.TypeMismatch
  read_not (scalar s) = Err refusals.TypeMismatch
