use Rattle.std.proofs.Common.{map, take}
use Rattle.bson.proofs.NameLaws.{names_has}
use Rattle.bson.proofs.names.Names.contains.Goals as goal

pub returns-else-is_among : goal.returns-else-is_among
returns-else-is_among c =
    names_has (map (λ n. n.now) (take c.self.inside.count c.self.inside.few)) c.self.inside.later.keys c.args.self.now c.args.name.now c.is_among.result
    c.contains.result c.is_among.ensures c.if-is_among.false c.contains.ensures c.self.view_is
