use Rattle.collections.proofs.TrustLemmas.{trusting_keeps_state}
use Rattle.collections.proofs.laws.trusting_keeps_state.Goals as goal

pub returns : goal.returns
returns g c = trusting_keeps_state g.D.Disk.history
