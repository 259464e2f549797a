use Rattle.trusted_disk.proofs.TrustingLemmas.{stays_trusted}
use Rattle.trusted_disk.proofs.laws.stays_trusted.Goals as goal

pub returns : goal.returns
returns c = stays_trusted
