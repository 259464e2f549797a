use Rattle.std.proofs.Common.{◌-◌}
use Rattle.btree.proofs.root.+levels_below.Given as goal

abbrev pub decreases-levels_below : goal.decreases-levels_below
decreases-levels_below g l = 31 - l.level
