use Rattle.trusted_disk.proofs.TrustingLemmas.{takes_back}
use Rattle.trusted_disk.proofs.laws.takes_back.Goals as goal

pub returns : goal.returns
returns g c = takes_back g.I.Images.hold
