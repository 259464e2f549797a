use Rattle.std.proofs.Common.{length}
use Rattle.aggregate.proofs.taking.+enough.Given as goal

abbrev pub decreases-enough : goal.decreases-enough
decreases-enough l = length l.stages.now
