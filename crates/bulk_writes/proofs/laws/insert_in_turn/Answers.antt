use Rattle.bulk_writes.proofs.Inserting.{insert_in_turn}
use Rattle.bulk_writes.proofs.laws.insert_in_turn.Goals as goal

pub returns : goal.returns
returns c = insert_in_turn
