use Rattle.std.proofs.Common.{◌-◌}
use Rattle.btree.proofs.root.+write_root.Given as goal

abbrev pub decreases-write_root : goal.decreases-write_root
decreases-write_root g l = 32 - l.top.rank
