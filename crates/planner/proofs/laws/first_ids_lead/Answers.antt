use Rattle.planner.proofs.FirstIdLemmas.{first_ids_lead}
use Rattle.planner.proofs.laws.first_ids_lead.Goals as goal

pub returns : goal.returns
returns c = first_ids_lead
