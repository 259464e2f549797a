use Rattle.std.proofs.Common.{List, subst, sym, ◌∙◌}
use Rattle.std.specs.Prelude.{All, not}
use Rattle.std.proofs.lemmas.List.{map-id}
use Rattle.std.proofs.lemmas.Result.{err_from_is_err_and}
use Rattle.bson.specs.Tree.{Pairs}
use Rattle.engine.specs.TakingOut.{IsIndexable, TakesOut}
use Rattle.engine.proofs.DroppingLemmas.{batch_not_removed, batch_removed, batch_unread, fewer_left, none_more}
use Rattle.engine.proofs.engine.Engine.note_batch.Goals as goal

pub returns-in_err-batch-clause-looks : goal.returns-in_err-batch-clause-looks
returns-in_err-batch-clause-looks g c =
    let p = err_from_is_err_and c.from_residual.result c.from_residual.ensures.1 in
    rw (p.1, p.2)
    (batch_unread g.D.Disk.history c.args.self.now c.requires.sound c.requires.running c.args.home.now c.args.walk.now c.next_documents.new.walk
    c.args.edits.now c.args.edits.now c.next_documents.new.self
    c.in_err-batch.field-0.0 c.in_err-batch.ensures.reads)

pub returns-in_err-note_removed-clause-looks : goal.returns-in_err-note_removed-clause-looks
returns-in_err-note_removed-clause-looks g c =
    let p = err_from_is_err_and c.from_residual-in_err-note_removed.result c.from_residual-in_err-note_removed.ensures.1 in
    let lent = map-id c.deref.result.now ∙ c.deref.ensures.value in
    rw (p.1, p.2)
    (batch_not_removed g.D.Disk.history c.args.self.now c.requires.sound c.requires.running c.args.home.now c.args.walk.now c.next_documents.new.walk
    c.args.edits.now c.note_removed.new.edits c.next_documents.new.self
    c.in_ok-batch.batch c.in_ok-batch.ensures.reads c.in_err-note_removed.field-0.0
    (λ all. c.in_err-note_removed.ensures (subst (All (IsIndexable c.args.home.now.indexes.items)) (sym lent) all)))

pub returns-clause-looks : goal.returns-clause-looks
returns-clause-looks g c =
    let home = c.args.home.now in
    let lent = map-id c.deref.result.now ∙ c.deref.ensures.value in
    let takes = subst
    (λ (ds : List Pairs). TakesOut c.args.edits.now c.note_removed.new.edits home.number home.indexes.items ds) lent c.in_ok-note_removed.ensures in
    batch_removed g.D.Disk.history c.args.self.now c.requires.sound c.requires.running home c.args.walk.now c.next_documents.new.walk c.args.edits.now
    c.note_removed.new.edits c.next_documents.new.self
    c.in_ok-batch.batch c.in_ok-batch.ensures.reads (not c.is_empty.result) takes (none_more c.in_ok-batch.batch c.is_empty.result c.is_empty.ensures)

pub returns-clause-ends : goal.returns-clause-ends
returns-clause-ends g c =
    fewer_left c.in_ok-batch.batch c.is_empty.result c.next_documents.new.walk.left c.args.walk.now.left c.is_empty.ensures c.in_ok-batch.ensures.ends
