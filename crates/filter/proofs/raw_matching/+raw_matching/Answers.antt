use Rattle.std.proofs.Common.{ap, arith}
use Rattle.filter.specs.Condition.{weights}
use Rattle.filter.proofs.WalkLemmas.{condition_weight}
use Rattle.filter.proofs.raw_matching.+raw_matching.Goals as goal

pub all_hold-holds-requires : goal.all_hold-holds-requires
all_hold-holds-requires t c = (
  omega (
    arith,
    c.decreases,
    condition_weight c.conditions-condition-items.result.now c.conditions.condition-index c.condition-item.result c.conditions-test.true c.condition-item.is,
    ap weights c.conditions-condition-items.ensures,
  ),
  tt,
)

pub any_holds-holds-requires : goal.any_holds-holds-requires
any_holds-holds-requires t c = (
  omega (
    arith,
    c.decreases,
    condition_weight c.conditions-condition-items.result.now c.conditions.condition-index c.condition-item.result c.conditions-test.true c.condition-item.is,
    ap weights c.conditions-condition-items.ensures,
  ),
  tt,
)
