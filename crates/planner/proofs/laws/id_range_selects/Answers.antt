use Rattle.planner.proofs.IdRangeLemmas.{id_range_selects}
use Rattle.planner.proofs.laws.id_range_selects.Goals as goal

pub returns : goal.returns
returns c = id_range_selects
