use Rattle.std.proofs.Common.{rules, ◌≤◌}
use Rattle.bson.specs.Tree.{document}
use Rattle.bson.specs.Lawful.{levels}
use Rattle.driver_replies.proofs.BatchLemmas.{upsert_is_flat}
use Rattle.driver_replies.proofs.batch.Batch.asked_statement.Goals as goal

pub returns-in_ok-asked_upsert-in-Document-clause-flat : goal.returns-in_ok-asked_upsert-in-Document-clause-flat
returns-in_ok-asked_upsert-in-Document-clause-flat c =
    let short : levels (document c.in-Document.upsert) ≤ 98 = search rules in
    upsert_is_flat c.args.self.now c.in-Document.upsert _ short c.in_ok-asked_upsert-in-Document.ensures
