use Rattle.collections.proofs.LawLemmas as laws
use Rattle.collections.proofs.laws.has_one_state.Goals as goal

pub returns : goal.returns
returns g c = laws.has_one_state g.D.Disk.history
