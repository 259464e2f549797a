use Rattle.bulk_writes.proofs.Answering.{answered_alike}
use Rattle.bulk_writes.proofs.laws.answered_alike.Goals as goal

pub returns : goal.returns
returns c = answered_alike
