use Rattle.planner.proofs.KeyRangeLemmas.{has_key_in_range}
use Rattle.planner.proofs.laws.has_key_in_range.Goals as goal

pub returns : goal.returns
returns c = has_key_in_range
