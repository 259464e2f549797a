use Rattle.std.proofs.Common.{length}
use Rattle.pinned_cursors.proofs.EndingLemmas.{HasEnded}
use Rattle.pinned_cursors.proofs.ending.end_all.Given as goal

abbrev pub invariant-ended : goal.invariant-ended
invariant-ended g l = HasEnded g.D.Disk.history l.ends l.initial.file l.initial.cursors l.file l.cursors

abbrev pub decreases-ended : goal.decreases-ended
decreases-ended g l = length l.cursors.list
