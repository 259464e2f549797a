use Rattle.std.proofs.Common.{◌≡◌, ◌+◌, ◌*◌, drop}
use Rattle.bson.specs.Tree.{count, count_pairs, count_items}
use Rattle.bson.specs.View.{tree, pairs_of, items_of}
use Rattle.update_model.specs.Stored.{pairs_fault, items_fault}
use Rattle.update.proofs.stored.+names.Given as goal

abbrev pub decreases-value_fault : goal.decreases-value_fault
decreases-value_fault l = 2 * count (tree l.value.now)

abbrev pub decreases-pairs_fault : goal.decreases-pairs_fault
decreases-pairs_fault l = 2 * count_pairs (pairs_of l.pairs.now) + 1

abbrev pub decreases-items_fault : goal.decreases-items_fault
decreases-items_fault l = 2 * count_items (items_of l.items.now) + 1

abbrev pub invariant-pairs_fault-pairs : goal.invariant-pairs_fault-pairs
invariant-pairs_fault-pairs l = pairs_fault (pairs_of l.pairs) ≡ pairs_fault (pairs_of (drop l.pair-index l.pairs))

abbrev pub invariant-items_fault-items : goal.invariant-items_fault-items
invariant-items_fault-items l = items_fault (items_of l.items) ≡ items_fault (items_of (drop l.item-index l.items))
