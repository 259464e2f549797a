use Rattle.bson.proofs.BuildLaws.{pairs_len-is}
use Rattle.bson.proofs.value.Document.len.Goals as goal

pub returns : goal.returns
returns c = pairs_len-is c.self.inside.pairs.items c.args.self.now c.len.result c.self.inside.pairs.len c.self.view_is c.self.inside.pairs.ok.0 c.len.ensures
