use Rattle.bson.proofs.DepthLaws.{counts-added}
use Rattle.bson.proofs.depths.Depths.add.Goals as goal

pub returns : goal.returns
returns c = counts-added c.args.self.now.counts c.args.depth c.saturating_add.result c.requires c.saturating_add.ensures
