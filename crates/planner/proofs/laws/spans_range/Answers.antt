use Rattle.planner.proofs.KeySpanLemmas.{spans_range}
use Rattle.planner.proofs.laws.spans_range.Goals as goal

pub returns : goal.returns
returns c = spans_range
