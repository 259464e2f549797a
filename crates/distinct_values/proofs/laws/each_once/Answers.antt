use Rattle.distinct_values.proofs.DistinctLemmas.{each_once}
use Rattle.distinct_values.proofs.laws.each_once.Goals as goal

pub returns : goal.returns
returns c = each_once
