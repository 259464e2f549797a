use Rattle.std.proofs.Common.{◌≡◌, List, ℕ, Option, Some, None, Result, Ok, Err, sym, subst, ◌∙◌}
use Rattle.std.specs.Prelude.{IfSome, is_some}
use Rattle.std.proofs.lemmas.Result.{err_from_is_err_and}
use Rattle.bson.specs.Tree.{Pairs}
use Rattle.collections.specs.Folding.{HasTaken}
use Rattle.collections.specs.Lookups.{ReadsOf}
use Rattle.filter.specs.Matches.{matches}
use Rattle.index.specs.View.{texts_of}
use Rattle.walks.specs.Batches.{Gives, IsWholeBatch}
use Rattle.asked_documents.specs.ById.{AreIdsOfAsked}
use Rattle.walks.specs.declared.batches.GivenBatch.{GivenBatch}
use Rattle.walks.specs.declared.batches.Giving.{Giving}
use Rattle.walks.proofs.BatchesLemmas.{begins, has_some}
use Rattle.walks.proofs.GivenLemmas.{AreLent, given_batch}
use Rattle.walks.proofs.WholeBatchLemmas.{is_none, lent_asked}
use Rattle.asked_documents.proofs.ReadingLemmas.{reads_made, reads_memory, reads_refused}
use Rattle.walks.proofs.batches.batch_by_ids.Goals as goal

pub fold_by_ids-requires : goal.fold_by_ids-requires
fold_by_ids-requires g c = begins c.args.walk.now c.args.asked.now c.in_ok-giving.giving c.in_ok-giving.ensures

pub returns-in_err-given-clause-reads : goal.returns-in_err-given-clause-reads
returns-in_err-given-clause-reads g c =
    let w = c.args.walk.now in
    let texts : List (List ℕ) = texts_of c.args.ids.now in
    let start : Giving = c.in_ok-giving.giving in
    let e = err_from_is_err_and c.from_residual-in_err-given.result c.from_residual-in_err-given.ensures.1 in
    rw (e.1, e.2)
    (reads_refused g.D.Disk.history (AreIdsOfAsked c.args.home.now (matches w.filter.now) texts)
    (λ now of done. AreLent w start of.documents done)
    (λ now of (o : Option GivenBatch). IfSome o (IsWholeBatch w c.args.asked.now of.documents)) c.args.file.now c.fold_by_ids.new.file
    c.in_err-given.field-0.0
    (lent_asked w c.requires.from start c.args.home.now texts g.D.Disk.history c.args.file.now c.fold_by_ids.new.file (Err c.in_err-given.field-0.0)
    (sym c.if-is_stopped.ensures) (c.in_err-given.ensures.reads (matches w.filter.now))))

pub returns-then-is_some-clause-reads : goal.returns-then-is_some-clause-reads
returns-then-is_some-clause-reads g c =
    let w = c.args.walk.now in
    let texts : List (List ℕ) = texts_of c.args.ids.now in
    let start : Giving = c.in_ok-giving.giving in
    reads_made g.D.Disk.history (AreIdsOfAsked c.args.home.now (matches w.filter.now) texts)
    (λ now of done. AreLent w start of.documents done)
    (λ now of (o : Option GivenBatch). IfSome o (IsWholeBatch w c.args.asked.now of.documents)) c.args.file.now c.fold_by_ids.new.file
    c.in_ok-given.given None
    (lent_asked w c.requires.from start c.args.home.now texts g.D.Disk.history c.args.file.now c.fold_by_ids.new.file (Ok c.in_ok-given.given)
    (sym c.if-is_stopped.ensures) (c.in_ok-given.ensures.reads (matches w.filter.now))) (λ now of asked lent. tt)

pub ended-requires-clause-has_some : goal.ended-requires-clause-has_some
ended-requires-clause-has_some g c =
    let start : Giving = c.in_ok-giving.giving in
    let taken : HasTaken Gives start c.in_ok-given.given = c.in_ok-given.ensures.taken in
    has_some start c.in_ok-given.given taken.documents taken.made

pub returns-in_err-ended-clause-reads : goal.returns-in_err-ended-clause-reads
returns-in_err-ended-clause-reads g c =
    let w = c.args.walk.now in
    let texts : List (List ℕ) = texts_of c.args.ids.now in
    let start : Giving = c.in_ok-giving.giving in
    let e = err_from_is_err_and c.from_residual-in_err-ended.result c.from_residual-in_err-ended.ensures.1 in
    rw e.1
    (reads_memory g.D.Disk.history (AreIdsOfAsked c.args.home.now (matches w.filter.now) texts)
    (λ now of done. AreLent w start of.documents done)
    (λ now of (o : Option GivenBatch). IfSome o (IsWholeBatch w c.args.asked.now of.documents)) (Ok c.in_ok-given.given) c.args.file.now
    c.fold_by_ids.new.file e.0 e.2
    (lent_asked w c.requires.from start c.args.home.now texts g.D.Disk.history c.args.file.now c.fold_by_ids.new.file (Ok c.in_ok-given.given)
    (sym c.if-is_stopped.ensures) (c.in_ok-given.ensures.reads (matches w.filter.now))))

pub returns-clause-reads : goal.returns-clause-reads
returns-clause-reads g c =
    let w = c.args.walk.now in
    let texts : List (List ℕ) = texts_of c.args.ids.now in
    let start : Giving = c.in_ok-giving.giving in
    let done : Giving = c.in_ok-given.given in
    let b : GivenBatch = c.in_ok-ended.field-0 in
    reads_made g.D.Disk.history (AreIdsOfAsked c.args.home.now (matches w.filter.now) texts)
    (λ now of done. AreLent w start of.documents done)
    (λ now of (o : Option GivenBatch). IfSome o (IsWholeBatch w c.args.asked.now of.documents)) c.args.file.now c.fold_by_ids.new.file
    c.in_ok-given.given (Some b)
    (lent_asked w c.requires.from start c.args.home.now texts g.D.Disk.history c.args.file.now c.fold_by_ids.new.file (Ok c.in_ok-given.given)
    (sym c.if-is_stopped.ensures) (c.in_ok-given.ensures.reads (matches w.filter.now)))
    (λ now of asked lent. record {
      given = given_batch w c.args.asked.now start done of.documents b c.in_ok-giving.ensures lent c.in_ok-ended.ensures.ended;
      whole = c.in_ok-ended.ensures.ended.same_next ∙ is_none done.next c.is_some.result c.is_some.ensures c.if-is_some.false;
    })
