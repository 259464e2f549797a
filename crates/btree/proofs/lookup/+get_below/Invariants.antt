use Rattle.std.proofs.Common.{◌-◌}
use Rattle.btree.proofs.lookup.+get_below.Given as goal

abbrev pub decreases-get_below : goal.decreases-get_below
decreases-get_below g l = 31 - l.level
