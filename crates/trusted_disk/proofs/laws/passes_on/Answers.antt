use Rattle.trusted_disk.proofs.TrustingLemmas.{passes_on}
use Rattle.trusted_disk.proofs.laws.passes_on.Goals as goal

pub returns : goal.returns
returns g c = passes_on g.I.Images.hold
