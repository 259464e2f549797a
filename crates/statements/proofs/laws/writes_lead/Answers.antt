use Rattle.statements.proofs.WritePlaceLemmas.{writes_lead}
use Rattle.statements.proofs.laws.writes_lead.Goals as goal

pub returns : goal.returns
returns c = writes_lead
