use Rattle.std.proofs.Common.{◌-◌, length, take, drop, ap, ◌∙◌, arith}
use Rattle.std.specs.Prelude.{false}
use Rattle.bson.specs.View.{tree}
use Rattle.filter.specs.Condition.{weights}
use Rattle.filter.specs.Probes.{probe_passes}
use Rattle.filter.proofs.WalkLemmas.{condition_weight, first_and_rest, reach-array}
use Rattle.filter.proofs.matching.+matching.Goals as goal

pub all_hold-holds-requires : goal.all_hold-holds-requires
all_hold-holds-requires t c = (
  omega (
    arith,
    c.decreases,
    condition_weight c.conditions-condition-items.result.now c.conditions.condition-index c.condition-item.result c.conditions-test.true c.condition-item.is,
    ap weights c.conditions-condition-items.ensures,
  ),
  tt,
)

pub any_holds-holds-requires : goal.any_holds-holds-requires
any_holds-holds-requires t c = (
  omega (
    arith,
    c.decreases,
    condition_weight c.conditions-condition-items.result.now c.conditions.condition-index c.condition-item.result c.conditions-test.true c.condition-item.is,
    ap weights c.conditions-condition-items.ensures,
  ),
  tt,
)

pub finds_from-returns-in-Array : goal.finds_from-returns-in-Array
finds_from-returns-in-Array t c =
    c.finds_in_array.ensures
    ∙ reach-array (probe_passes c.args.probe false) c.args.parts.now (take (length c.args.parts.now - 1) (drop 1 c.args.parts.now)) c.part-item.result
    (tree c.args.value.now) c.in-Array.array
    (first_and_rest c.args.parts.now c.part-item.result c.in-len1-up.len_at_least c.part-item.is) (ap tree c.in-Array.is)
