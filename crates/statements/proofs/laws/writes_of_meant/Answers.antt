use Rattle.statements.proofs.WriteLawLemmas.{writes_of_meant}
use Rattle.statements.proofs.laws.writes_of_meant.Goals as goal

pub returns : goal.returns
returns c = writes_of_meant
