use Rattle.collections.proofs.LawLemmas as laws
use Rattle.collections.proofs.laws.goes_from_itself.Goals as goal

pub returns : goal.returns
returns g c = laws.goes_from_itself g.D.Disk.history
