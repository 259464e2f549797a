use Rattle.trusted_disk.proofs.TrustingLemmas.{leaves_alike}
use Rattle.trusted_disk.proofs.laws.leaves_alike.Goals as goal

pub returns : goal.returns
returns c = leaves_alike
