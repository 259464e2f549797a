use Rattle.bulk_writes.proofs.Reasons.{update_refused}
use Rattle.bulk_writes.proofs.laws.update_refused.Goals as goal

pub returns : goal.returns
returns c = update_refused
