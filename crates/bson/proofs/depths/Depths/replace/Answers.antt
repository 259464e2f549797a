use Rattle.bson.proofs.DepthLaws.{counts-replaced}
use Rattle.bson.proofs.depths.Depths.replace.Goals as goal

pub returns : goal.returns
returns c =
    counts-replaced c.args.self.now.counts c.args.old c.args.new c.saturating_sub.result c.saturating_add.result c.requires.0 c.requires.1
    c.saturating_sub.ensures c.saturating_add.ensures
