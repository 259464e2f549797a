use Rattle.planner.proofs.IdRangeLemmas.{has_id_in_range}
use Rattle.planner.proofs.laws.has_id_in_range.Goals as goal

pub returns : goal.returns
returns c = has_id_in_range
