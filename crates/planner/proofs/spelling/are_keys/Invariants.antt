use Rattle.std.specs.Prelude.{IfSome, drop}
use Rattle.std.specs.List.{AllByRecursion}
use Rattle.bson.specs.View.{tree}
use Rattle.value_order.specs.Laws.{IsKey}
use Rattle.value_order.specs.Order.{value as key_value}
use Rattle.planner.proofs.spelling.are_keys.Given as goal

abbrev pub invariant-values : goal.invariant-values
invariant-values l =
    AllByRecursion (λ o. IfSome o (λ v. IsKey (key_value (tree v.now)))) (drop l.value-index l.values)
    → AllByRecursion (λ o. IfSome o (λ v. IsKey (key_value (tree v.now)))) l.values
