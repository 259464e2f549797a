use Rattle.planner.proofs.IdLemmas.{finds_by_ids}
use Rattle.planner.proofs.laws.finds_by_ids.Goals as goal

pub returns : goal.returns
returns c = finds_by_ids
