use Rattle.collections.proofs.VersionLemmas as laws
use Rattle.collections.proofs.laws.versions_stay.Goals as goal

pub returns : goal.returns
returns g c = laws.versions_stay g.D.Disk.history
