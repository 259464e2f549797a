use Rattle.bson.proofs.OverviewLaws.{is_taken}
use Rattle.bson.proofs.value.Document.push.Goals as goal

pub returns-then-is_some-clause-fault : goal.returns-then-is_some-clause-fault
returns-then-is_some-clause-fault c =
    is_taken c.args.self.now c.args.name.now c.position.result c.is_some.result c.position.ensures c.is_some.ensures c.if-is_some.true
    c.levels-lawful.ensures.lawful.lawful
