use Rattle.statements.proofs.WriteLawLemmas.{writes_stored}
use Rattle.statements.proofs.laws.writes_stored.Goals as goal

pub returns : goal.returns
returns c = writes_stored
