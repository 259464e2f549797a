use Rattle.std.proofs.Common.{List, ap, ◌∙◌}
use Rattle.index.specs.Definition.{Definition}
use Rattle.database_model.specs.ListIndexes.{indexes_reply}
use Rattle.database_model.specs.Refusals.{ok_reply}
use Rattle.engine.proofs.ListingIndexes.{list_done, list_missing}
use Rattle.engine.proofs.engine.Engine.list_indexes.Goals as goal

pub returns-in_default-clause-performs : goal.returns-in_default-clause-performs
returns-in_default-clause-performs g c =
    list_missing g.D.Disk.history c.args.namespace.now c.args.self.now c.catalogued.new.self (rw c.in_default.is at c.in_ok-home.ensures.looks)

pub returns-clause-performs : goal.returns-clause-performs
returns-clause-performs g c =
    let said = c.in_ok-indexes_reply.ensures.reply ∙ ap (λ (is : List Definition). ok_reply (indexes_reply c.args.namespace.now is)) c.deref.ensures.value in
    list_done g.D.Disk.history c.args.namespace.now c.args.self.now c.catalogued.new.self c.in-Some.home
    (rw c.in-Some.is at c.in_ok-home.ensures.looks) c.in_ok-indexes_reply.field-0 said
