use Rattle.std.proofs.Common.{arith}
use Rattle.update.proofs.StepLemmas.{pair_count, item_count}
use Rattle.update.proofs.stored.+names.Goals as goal

pub items_fault-value_fault-requires : goal.items_fault-value_fault-requires
items_fault-value_fault-requires t c =
    (omega (arith, c.decreases, item_count c.args.items.now c.items.item-index c.item-item.result c.items-test.true c.item-item.is), tt)

pub pairs_fault-value_fault-requires : goal.pairs_fault-value_fault-requires
pairs_fault-value_fault-requires t c =
    (omega (arith, c.decreases, pair_count c.args.pairs.now c.pairs.pair-index c.pair-item.result c.pairs-test.true c.pair-item.is), tt)
