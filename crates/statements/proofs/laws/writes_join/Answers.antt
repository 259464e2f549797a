use Rattle.statements.proofs.WriteLawLemmas.{writes_join}
use Rattle.statements.proofs.laws.writes_join.Goals as goal

pub returns : goal.returns
returns c = writes_join
