use Rattle.planner.proofs.RangeReadingLemmas.{range_finds_matching}
use Rattle.planner.proofs.laws.range_finds_matching.Goals as goal

pub returns : goal.returns
returns c = range_finds_matching
