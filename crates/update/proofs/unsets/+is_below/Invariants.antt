use Rattle.std.proofs.Common.{length}
use Rattle.update.proofs.unsets.+is_below.Given as goal

abbrev pub decreases-is_below : goal.decreases-is_below
decreases-is_below l = length l.parent.now
