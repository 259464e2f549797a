use Rattle.std.proofs.Common.{subst}
use Rattle.std.specs.Prelude.{not}
use Rattle.std.proofs.lemmas.Result.{err_from_is_err_and}
use Rattle.entries.specs.IndexBuilding.{HasRemovedEntries}
use Rattle.engine.specs.Unindexing.{HasKeysIn}
use Rattle.engine.proofs.DroppingLemmas.{fewer_left, none_more}
use Rattle.engine.proofs.UnindexingLemmas.{batch_stays, batch_unindexed, batch_unread, fits_these}
use Rattle.engine.proofs.engine.Engine.unindex_batch.Goals as goal

pub returns-in_err-batch-clause-looks : goal.returns-in_err-batch-clause-looks
returns-in_err-batch-clause-looks g c =
    let p = err_from_is_err_and c.from_residual.result c.from_residual.ensures.1 in
    rw (p.1, p.2)
    (batch_unread g.D.Disk.history c.args.self.now c.requires.sound c.args.number c.args.index.now c.args.edits.now c.args.edits.now c.args.walk.now
    c.next_documents.new.walk c.next_documents.new.self
    c.in_err-batch.field-0.0 c.in_err-batch.ensures.reads)

pub returns-in_err-unindex_each-clause-looks : goal.returns-in_err-unindex_each-clause-looks
returns-in_err-unindex_each-clause-looks g c =
    let p = err_from_is_err_and c.from_residual-in_err-unindex_each.result c.from_residual-in_err-unindex_each.ensures.1 in
    rw (p.1, p.2)
    (batch_stays g.D.Disk.history c.args.self.now c.requires.sound c.args.number c.args.index.now c.args.edits.now c.unindex_each.new.edits c.args.walk.now
    c.next_documents.new.walk c.next_documents.new.self
    c.in_ok-batch.batch c.in_ok-batch.ensures.reads c.in_err-unindex_each.field-0.0
    (fits_these (HasKeysIn c.args.index.now) _ _ c.deref.ensures.value c.in_err-unindex_each.ensures.refuses))

pub returns-clause-looks : goal.returns-clause-looks
returns-clause-looks g c =
    let removed =
    subst (HasRemovedEntries c.args.edits.now c.unindex_each.new.edits c.args.number c.args.index.now) c.deref.ensures.value
    c.in_ok-unindex_each.ensures.removes in
    batch_unindexed g.D.Disk.history c.args.self.now c.requires.sound c.args.number c.args.index.now c.args.edits.now c.unindex_each.new.edits c.args.walk.now
    c.next_documents.new.walk c.next_documents.new.self
    c.in_ok-batch.batch c.in_ok-batch.ensures.reads (not c.is_empty.result) removed (none_more c.in_ok-batch.batch c.is_empty.result c.is_empty.ensures)

pub returns-clause-ends : goal.returns-clause-ends
returns-clause-ends g c =
    fewer_left c.in_ok-batch.batch c.is_empty.result c.next_documents.new.walk.left c.args.walk.now.left c.is_empty.ensures c.in_ok-batch.ensures.ends
