-- `$min` puts its operand where it is below what stands at a path, `$max` where it is above, and
-- both where nothing stands there. The order is that of values.
use Rattle.std.specs.Prelude.{if◌then◌else◌, Bool, true, false, Option, Some, None, Result, Ok}
use Rattle.std.specs.declared.cmp.Ordering.{Ordering}
use Rattle.std.specs.declared.cmp.Ordering.TheVariants.{Less, Equal, Greater}
use Rattle.bson.specs.Tree.{Tree}
use Rattle.value_order.specs.Order.{compare}
use Rattle.path.specs.declared.refusal.Refusal.{Refusal}

abbrev pub is_below : Ordering → Bool
is_below Less = true
is_below Equal = false
is_below Greater = false

abbrev pub lowered : Tree → Option Tree → Result Tree Refusal
lowered operand None = Ok operand
lowered operand (Some t) = Ok (if is_below (compare operand t) then operand else t)

abbrev pub raised : Tree → Option Tree → Result Tree Refusal
raised operand None = Ok operand
raised operand (Some t) = Ok (if is_below (compare t operand) then operand else t)
