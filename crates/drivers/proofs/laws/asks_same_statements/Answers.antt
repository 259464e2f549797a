use Rattle.drivers.proofs.StatementLaws.{asks_same_statements}
use Rattle.drivers.proofs.laws.asks_same_statements.Goals as goal

pub returns : goal.returns
returns c = asks_same_statements
