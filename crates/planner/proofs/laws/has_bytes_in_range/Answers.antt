use Rattle.planner.proofs.KeyBytesLemmas.{has_bytes_in_range}
use Rattle.planner.proofs.laws.has_bytes_in_range.Goals as goal

pub returns : goal.returns
returns c = has_bytes_in_range
