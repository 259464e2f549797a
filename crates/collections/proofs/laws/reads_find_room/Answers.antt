use Rattle.collections.proofs.CauseLemmas.{any_cause, read_not_full}
use Rattle.collections.proofs.laws.reads_find_room.Goals as goal

pub returns : goal.returns
returns g c = λ old new e cause. (read_not_full g.D.Disk.history old new e cause, any_cause g.D.Disk.history old new e cause)
