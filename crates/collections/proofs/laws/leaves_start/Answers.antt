use Rattle.collections.proofs.LawLemmas as laws
use Rattle.collections.proofs.laws.leaves_start.Goals as goal

pub returns : goal.returns
returns g c = laws.leaves_start g.D.Disk.history
