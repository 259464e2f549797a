use Rattle.std.proofs.Common.{List, subst}
use Rattle.std.specs.Prelude.{not}
use Rattle.std.proofs.lemmas.Result.{err_from_is_err_and}
use Rattle.bson.specs.Tree.{Pairs}
use Rattle.engine.specs.Indexing.{RefusesOne, TakesEach}
use Rattle.engine.proofs.DroppingLemmas.{fewer_left, none_more}
use Rattle.engine.proofs.IndexingLemmas.{batch_refused, batch_taken, batch_unread}
use Rattle.engine.proofs.engine.Engine.take_batch.Goals as goal

pub returns-in_err-batch-clause-tries : goal.returns-in_err-batch-clause-tries
returns-in_err-batch-clause-tries g c =
    let p = err_from_is_err_and c.from_residual.result c.from_residual.ensures.1 in
    rw (p.1, p.2)
    (batch_unread g.D.Disk.history c.args.self.now c.requires.sound c.args.made.now c.args.made.now c.args.walk.now c.next_documents.new.walk
    c.next_documents.new.self c.in_err-batch.field-0.0 c.in_err-batch.ensures.reads)

pub returns-in_err-take_each-clause-tries : goal.returns-in_err-take_each-clause-tries
returns-in_err-take_each-clause-tries g c =
    let p = err_from_is_err_and c.from_residual-in_err-take_each.result c.from_residual-in_err-take_each.ensures.1 in
    let e = c.in_err-take_each.field-0.0 in
    rw (p.1, p.2)
    (batch_refused g.D.Disk.history c.args.self.now c.requires.sound c.args.made.now c.take_each.new.made c.args.walk.now c.next_documents.new.walk
    c.next_documents.new.self c.in_ok-batch.batch c.in_ok-batch.ensures.reads
    e (subst (λ (ds : List Pairs). RefusesOne c.args.made.now ds e) c.deref.ensures.value c.in_err-take_each.ensures.refuses))

pub returns-clause-tries : goal.returns-clause-tries
returns-clause-tries g c =
    batch_taken g.D.Disk.history c.args.self.now c.requires.sound c.args.made.now c.take_each.new.made c.args.walk.now c.next_documents.new.walk
    c.next_documents.new.self c.in_ok-batch.batch c.in_ok-batch.ensures.reads
    (not c.is_empty.result) (subst (TakesEach c.args.made.now c.take_each.new.made) c.deref.ensures.value c.in_ok-take_each.ensures.takes)
    (none_more c.in_ok-batch.batch c.is_empty.result c.is_empty.ensures)

pub returns-clause-ends : goal.returns-clause-ends
returns-clause-ends g c =
    fewer_left c.in_ok-batch.batch c.is_empty.result c.next_documents.new.walk.left c.args.walk.now.left c.is_empty.ensures c.in_ok-batch.ensures.ends
