use Rattle.index.proofs.SetLaws.{changes_lead}
use Rattle.index.proofs.laws.changes_lead.Goals as goal

pub returns : goal.returns
returns c = changes_lead
