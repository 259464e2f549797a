use Rattle.bson.specs.Depths.{pairs_at}
use Rattle.bson.specs.Lawful.{pairs_levels}
use Rattle.bson.proofs.DepthLaws.{pairs_deepest}
use Rattle.bson.proofs.overview.Overview.deepest.Goals as goal

pub returns : goal.returns
returns c = λ ps tells most. c.deepest.ensures (pairs_at ps) (pairs_levels ps) tells.counts (pairs_deepest ps) most
