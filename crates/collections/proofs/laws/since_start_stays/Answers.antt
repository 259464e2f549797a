use Rattle.collections.proofs.VersionLemmas as laws
use Rattle.collections.proofs.laws.since_start_stays.Goals as goal

pub returns : goal.returns
returns g c = laws.since_start_stays g.D.Disk.history
