use Rattle.std.proofs.Common.{arith}
use Rattle.bson.proofs.NestingLaws.{counts_no_items, counts_next}
use Rattle.bson.proofs.nesting.depths_of.Goals as goal

pub items-init : goal.items-init
items-init c = counts_no_items _ c.new-depths.ensures

pub items-preserved : goal.items-preserved
items-preserved c =
    counts_next c.items.depths c.add.new.self c.args.items.now c.items.item-index c.item-item.result c.levels.result c.add.ensures c.items-test.true
    c.item-item.is (omega arith) c.levels.ensures.levels c.items.invariant
