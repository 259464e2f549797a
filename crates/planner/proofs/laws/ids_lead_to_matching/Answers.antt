use Rattle.planner.proofs.FoundIdLemmas.{ids_lead_to_matching}
use Rattle.planner.proofs.laws.ids_lead_to_matching.Goals as goal

pub returns : goal.returns
returns c = ids_lead_to_matching
