use Rattle.std.proofs.Common.{◌+◌, ◌*◌, ◌≤◌, length}
use Rattle.bson_bytes.specs.Checked.{CountedPairs}
use Rattle.bson_bytes.proofs.CheckLaws.{MarkedPairs, CheckedItems}
use Rattle.bson_bytes.proofs.checking.+checking.Given as goal

abbrev pub decreases-check_value : goal.decreases-check_value
decreases-check_value l = 4 * l.more

abbrev pub decreases-check_item : goal.decreases-check_item
decreases-check_item l = 4 * l.more + 1

abbrev pub decreases-check_pair : goal.decreases-check_pair
decreases-check_pair l = 4 * l.more + 1

abbrev pub decreases-check_later : goal.decreases-check_later
decreases-check_later l = 4 * l.more + 1

abbrev pub decreases-check_items : goal.decreases-check_items
decreases-check_items l = 4 * l.more + 2

abbrev pub decreases-check_further : goal.decreases-check_further
decreases-check_further l = 4 * l.more + 2

abbrev pub decreases-check_pairs : goal.decreases-check_pairs
decreases-check_pairs l = 4 * l.more + 3

abbrev pub invariant-check_pairs-pairs : goal.invariant-check_pairs-pairs
invariant-check_pairs-pairs l = MarkedPairs l.more l.content l.rest l.count l.marks × (l.count ≤ 48)

abbrev pub decreases-check_pairs-pairs : goal.decreases-check_pairs-pairs
decreases-check_pairs-pairs l = length l.rest

abbrev pub invariant-check_further-pairs : goal.invariant-check_further-pairs
invariant-check_further-pairs l = CountedPairs l.more l.content l.rest l.count

abbrev pub decreases-check_further-pairs : goal.decreases-check_further-pairs
decreases-check_further-pairs l = length l.rest

abbrev pub invariant-check_items-items : goal.invariant-check_items-items
invariant-check_items-items l = CheckedItems l.more l.content l.rest l.i

abbrev pub decreases-check_items-items : goal.decreases-check_items-items
decreases-check_items-items l = length l.rest
