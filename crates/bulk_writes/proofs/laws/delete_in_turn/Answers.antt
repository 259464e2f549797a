use Rattle.bulk_writes.proofs.Deleting.{delete_in_turn}
use Rattle.bulk_writes.proofs.laws.delete_in_turn.Goals as goal

pub returns : goal.returns
returns c = delete_in_turn
