use Rattle.freelist.proofs.Undoing.{undoing_leads_back}
use Rattle.freelist.proofs.laws.undoing_leads_back.Goals as goal

pub returns : goal.returns
returns c = undoing_leads_back
