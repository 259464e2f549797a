use Rattle.bson.proofs.BuildLaws.{items_len-is}
use Rattle.bson.proofs.value.Array.len.Goals as goal

pub returns : goal.returns
returns c = items_len-is c.self.inside.items.items c.args.self.now c.len.result c.self.inside.items.len c.self.view_is c.self.inside.items.ok.0 c.len.ensures
