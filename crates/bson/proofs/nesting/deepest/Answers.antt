use Rattle.std.proofs.Common.{arith}
use Rattle.bson.proofs.BuildLaws.{items_levels-more}
use Rattle.bson.proofs.nesting.deepest.Goals as goal

pub items-preserved : goal.items-preserved
items-preserved c =
    omega (
      arith,
      c.max-levels.ensures,
      c.levels.ensures.levels,
      c.items.invariant,
      items_levels-more c.args.items.now c.items.item-index c.item-item.result c.items-test.true c.item-item.is,
    )
