use Rattle.collections.proofs.LawLemmas as laws
use Rattle.collections.proofs.laws.rests_at_start.Goals as goal

pub returns : goal.returns
returns g c = laws.rests_at_start g.D.Disk.history
