-- The conditions that a filter holds weigh less than it does.
use Rattle.std.specs.Prelude.{◌≤◌, max, List, [], ◌∷◌}
use Rattle.std.proofs.Common.{arith}
use denote.Param.Weighed.{most}
use Rattle.filter.specs.Condition.{weight, weights}
use Rattle.filter.specs.View.{condition_of, conditions_of}
use Rattle.filter.specs.declared.condition.Condition.{Condition}
use Rattle.filter.specs.declared.condition.Condition.TheVariants as conditions
use Rattle.filter.specs.declared.condition.Filter.TheDeep.{deep-Condition}

pub deep_le-weight : (r : Condition) → deep-Condition r ≤ weight (condition_of r)
deep_le-weight (conditions.All rs) = omega arith
deep_le-weight (conditions.Any rs) = omega arith
deep_le-weight (conditions.NotAll rs) = omega arith
deep_le-weight (conditions.NotAny rs) = omega arith
deep_le-weight (conditions.At parts rs) = omega arith
deep_le-weight (conditions.Is t) = omega arith
deep_le-weight (conditions.Element rs) = omega arith
deep_le-weight (conditions.ElementDocument rs) = omega arith

pub most_le-weights : (rs : List Condition)
    → max (most deep-Condition rs) 0 ≤ weights (conditions_of rs)
most_le-weights [] = omega arith
most_le-weights (r ∷ rs) = omega (arith, deep_le-weight r, most_le-weights rs)
