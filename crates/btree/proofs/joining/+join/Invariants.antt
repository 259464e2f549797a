use Rattle.std.proofs.Common.{◌+◌}
use Rattle.btree.proofs.joining.+join.Given as goal

abbrev pub decreases-join : goal.decreases-join
decreases-join g l = l.left.rank + l.right.rank
