use Rattle.std.proofs.Common.{◌+◌, ◌*◌, length}
use Rattle.btree.proofs.changing.+change.Given as goal

-- 2^65 for each level, and one for each child
abbrev pub decreases-change_below : goal.decreases-change_below
decreases-change_below g l = 36893488147419103232 * l.rank + 18446744073709551616

abbrev pub decreases-change_children : goal.decreases-change_children
decreases-change_children g l = 36893488147419103232 * l.node.rank + length l.node.loose_slots.items

abbrev pub decreases-change_child : goal.decreases-change_child
decreases-change_child g l = 36893488147419103232 * l.rank
