use Rattle.entries.proofs.EditOrderLaws.{leads_on}
use Rattle.entries.proofs.state_laws.leads_on.Goals as goal

pub returns : goal.returns
returns c = leads_on
