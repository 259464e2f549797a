use Rattle.driver_replies.proofs.BatchLawLemmas.{asks_each_statement}
use Rattle.driver_replies.proofs.laws.asks_each_statement.Goals as goal

pub returns : goal.returns
returns c = asks_each_statement
