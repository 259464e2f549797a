use Rattle.collections.proofs.LawLemmas as laws
use Rattle.collections.proofs.laws.goes_further.Goals as goal

pub returns : goal.returns
returns g c = laws.goes_further g.D.Disk.history
