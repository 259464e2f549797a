use Rattle.std.proofs.Common.{◌≡◌, drop}
use Rattle.bson.specs.View.{items_of}
use Rattle.filter.specs.Condition.{equals, append_conditions}
use Rattle.filter.specs.View.{conditions_of}
use Rattle.filter.proofs.operands.equals.Given as goal

abbrev pub invariant-items : goal.invariant-items
invariant-items l = append_conditions (conditions_of l.conditions.items) (equals (items_of (drop l.item-index l.item-items))) ≡ equals l.array
