use Rattle.collections.proofs.VersionLemmas as laws
use Rattle.collections.proofs.laws.pins_stay.Goals as goal

pub returns : goal.returns
returns g c = laws.pins_stay g.D.Disk.history
