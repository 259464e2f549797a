use Rattle.drivers.proofs.AskingLaws.{asks_own_fields}
use Rattle.drivers.proofs.laws.asks_own_fields.Goals as goal

pub returns : goal.returns
returns c = asks_own_fields
