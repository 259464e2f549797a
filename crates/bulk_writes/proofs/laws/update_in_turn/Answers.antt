use Rattle.bulk_writes.proofs.Updating.{update_in_turn}
use Rattle.bulk_writes.proofs.laws.update_in_turn.Goals as goal

pub returns : goal.returns
returns c = update_in_turn
