use Rattle.std.proofs.Common.{◌≡◌, take}
use Rattle.filter.specs.View.{conditions_of}
use Rattle.filter.proofs.condition.+copies.Given as goal

abbrev pub invariant-Filter::copy-conditions : goal.invariant-Filter::copy-conditions
invariant-Filter::copy-conditions l = conditions_of l.conditions.items ≡ conditions_of (take l.condition-index l.condition-items)
