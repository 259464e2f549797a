-- The table of the accumulators (MongoDB manual, "$group"): of each its name, where it starts, what
-- one value more makes of what it has, and what it gives in the end. A missing value is None.
use Rattle.std.specs.Prelude.{ℕ, ℤ, pos, ◌+ℤ◌, Bool, true, false, if◌then◌else◌, Option, Some, None}
use Rattle.std.specs.Prelude.{Result, Ok, List, codes, fold}
use Rattle.std.specs.Str.{bytes_eq}
use Rattle.std.specs.declared.cmp.Ordering.{Ordering}
use Rattle.std.specs.declared.cmp.Ordering.TheVariants.{Less, Equal, Greater}
use Rattle.bson.specs.Tree.{Tree, scalar, int32, int64, array, Items, no_items, item, append_items}
use Rattle.value_order.specs.Order.{compare}
use Rattle.path.specs.Edits.{within}
use Rattle.path.specs.declared.refusal.Refusal.{Refusal}
use Rattle.filter.specs.Matches.{is_null}
use Rattle.aggregate_model.specs.Expression.{or_null}
use Rattle.aggregate_model.specs.Numbers.{total_value}
use Rattle.aggregate_model.specs.declared.accumulators.Accumulator.{Accumulator}
use Rattle.aggregate_model.specs.declared.accumulators.Accumulator.TheVariants as accumulators

abbrev pub accumulator_named : List ℕ → Option Accumulator
accumulator_named name =
    if bytes_eq name (codes "$sum") then Some accumulators.Sum else
    if bytes_eq name (codes "$min") then Some accumulators.Least else
    if bytes_eq name (codes "$max") then Some accumulators.Greatest else
    if bytes_eq name (codes "$first") then Some accumulators.First else
    if bytes_eq name (codes "$last") then Some accumulators.Last else
    if bytes_eq name (codes "$push") then Some accumulators.Push else
    None

pub data State : Type 0 where
  -- whether all numbers were int32, and their sum
  total : Bool → ℤ → State
  least : Option Tree → State
  greatest : Option Tree → State
  first : Option Tree → State
  last : Option Tree → State
  pushed : Items → State

abbrev pub start : Accumulator → State
start accumulators.Sum = total true (pos 0)
start accumulators.Least = least None
start accumulators.Greatest = greatest None
start accumulators.First = first None
start accumulators.Last = last None
start accumulators.Push = pushed no_items

-- ---- one value more

-- what isn't a number is passed over
abbrev pub sum_with : Bool → ℤ → Tree → State
sum_with narrow z (scalar (int32 n)) = total narrow (z +ℤ n)
sum_with narrow z (scalar (int64 n)) = total false (z +ℤ n)
sum_with narrow z t = total narrow z

abbrev pub is_below : Ordering → Bool
is_below Less = true
is_below Equal = false
is_below Greater = false

-- of equal values the first one stays
abbrev pub lesser : Option Tree → Tree → Tree
lesser None t = t
lesser (Some best) t = if is_below (compare t best) then t else best

abbrev pub greater : Option Tree → Tree → Tree
greater None t = t
greater (Some best) t = if is_below (compare best t) then t else best

-- null and what is missing are passed over
abbrev pub best_with : (Option Tree → Tree → Tree) → Option Tree → Option Tree → Option Tree
best_with choose best None = best
best_with choose best (Some t) = if is_null t then best else Some (choose best t)

abbrev pub first_with : Option Tree → Option Tree → Option Tree
first_with None found = Some (or_null found)
first_with (Some t) found = Some t

abbrev pub pushed_with : Items → Option Tree → Items
pushed_with ts None = ts
pushed_with ts (Some t) = append_items ts (item t no_items)

abbrev pub take : State → Option Tree → State
take (total narrow z) None = total narrow z
take (total narrow z) (Some t) = sum_with narrow z t
take (least best) found = least (best_with lesser best found)
take (greatest best) found = greatest (best_with greater best found)
take (first o) found = first (first_with o found)
take (last o) found = last (Some (or_null found))
take (pushed ts) found = pushed (pushed_with ts found)

-- ---- in the end

-- a sum past int64 is refused, and an array that would nest more than 99 levels
abbrev pub outcome : State → Result Tree Refusal
outcome (total narrow z) = total_value narrow z
outcome (least o) = Ok (or_null o)
outcome (greatest o) = Ok (or_null o)
outcome (first o) = Ok (or_null o)
outcome (last o) = Ok (or_null o)
outcome (pushed ts) = within 99 (Ok (array ts))

-- what an accumulator gives of the values of a group
abbrev pub accumulated : Accumulator → List (Option Tree) → Result Tree Refusal
accumulated a found = outcome (fold take (start a) found)
