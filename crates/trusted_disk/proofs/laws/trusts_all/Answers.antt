use Rattle.trusted_disk.proofs.TrustingLemmas.{trusts_all}
use Rattle.trusted_disk.proofs.laws.trusts_all.Goals as goal

pub returns : goal.returns
returns c = trusts_all
