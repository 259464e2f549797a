use Rattle.collections.proofs.VersionLemmas as laws
use Rattle.collections.proofs.laws.has_one_version.Goals as goal

pub returns : goal.returns
returns g c = laws.has_one_version g.D.Disk.history
