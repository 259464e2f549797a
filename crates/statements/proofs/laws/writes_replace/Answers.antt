use Rattle.statements.proofs.WritePlaceLemmas.{writes_replace}
use Rattle.statements.proofs.laws.writes_replace.Goals as goal

pub returns : goal.returns
returns c = writes_replace
