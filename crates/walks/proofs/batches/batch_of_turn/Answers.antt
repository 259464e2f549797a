use Rattle.std.proofs.Common.{Ok, Err, option_map, sym}
use Rattle.std.proofs.lemmas.Result.{err_from_is_err_and}
use Rattle.btree.specs.declared.folding.Bounds.{Bounds}
use Rattle.collections.proofs.ReadingLemmas.{asked_on, asked_refused}
use Rattle.asked_documents.specs.Asking.{IsAsked}
use Rattle.walks.specs.Batches.{IsGivenBatch}
use Rattle.walks.specs.declared.batches.GivenBatch.{GivenBatch}
use Rattle.walks.specs.declared.batches.Giving.{Giving}
use Rattle.walks.specs.declared.id_range.IdSpan.{IdSpan}
use Rattle.walks.proofs.BatchesLemmas.{begins, has_some}
use Rattle.walks.proofs.GivenLemmas.{AreLent, given_batch, lent_turn}
use Rattle.walks.proofs.batches.batch_of_turn.Goals as goal

pub fold_documents_within-requires : goal.fold_documents_within-requires
fold_documents_within-requires g c = begins c.args.walk.now c.args.asked.now c.in_ok-giving.giving c.in_ok-giving.ensures

pub returns-in_err-given-clause-reads : goal.returns-in_err-given-clause-reads
returns-in_err-given-clause-reads g c =
    let w = c.args.walk.now in
    let texts : Bounds = record { from = c.deref.result; to = c.as_deref.result } in
    let span : IdSpan = c.in_ok-span.span in
    let start : Giving = c.in_ok-giving.giving in
    let e = err_from_is_err_and c.from_residual-in_err-given.result c.from_residual-in_err-given.ensures.1 in
    let lent = lent_turn g.D.Disk.history w start texts span.first.items
    (option_map (λ v. v.items) span.end) c.deref.ensures.value c.as_deref.ensures.value c.in_ok-span.ensures c.args.file.now
    c.fold_documents_within.new.self (Err c.in_err-given.field-0.0) c.args.home.now (sym c.if-is_stopped.ensures) c.in_err-given.ensures.reads in
    rw (e.1, e.2)
    (asked_refused g.D.Disk.history (IsAsked c.args.home.now) (λ now of (b : GivenBatch). IsGivenBatch w c.args.asked.now of.documents b)
    c.args.file.now c.fold_documents_within.new.self (λ now of done. AreLent w start of.documents done) c.in_err-given.field-0.0 lent)

pub ended-requires-clause-has_some : goal.ended-requires-clause-has_some
ended-requires-clause-has_some g c =
    let taken = c.in_ok-given.ensures.taken in
    has_some c.in_ok-giving.giving c.in_ok-given.given taken.documents taken.made

pub returns-in_err-ended-clause-reads : goal.returns-in_err-ended-clause-reads
returns-in_err-ended-clause-reads g c =
    let w = c.args.walk.now in
    let texts : Bounds = record { from = c.deref.result; to = c.as_deref.result } in
    let span : IdSpan = c.in_ok-span.span in
    let start : Giving = c.in_ok-giving.giving in
    let done : Giving = c.in_ok-given.given in
    let e = err_from_is_err_and c.from_residual-in_err-ended.result c.from_residual-in_err-ended.ensures.1 in
    let lent = lent_turn g.D.Disk.history w start texts span.first.items
    (option_map (λ v. v.items) span.end) c.deref.ensures.value c.as_deref.ensures.value c.in_ok-span.ensures c.args.file.now
    c.fold_documents_within.new.self (Ok done) c.args.home.now (sym c.if-is_stopped.ensures) c.in_ok-given.ensures.reads in
    rw e.1
    (asked_on g.D.Disk.history (IsAsked c.args.home.now) (λ now of (b : GivenBatch). IsGivenBatch w c.args.asked.now of.documents b)
    c.args.file.now c.fold_documents_within.new.self (λ now of done. AreLent w start of.documents done) done (Err e.0) lent (λ now of asked lent. e.2))

pub returns-clause-reads : goal.returns-clause-reads
returns-clause-reads g c =
    let w = c.args.walk.now in
    let texts : Bounds = record { from = c.deref.result; to = c.as_deref.result } in
    let span : IdSpan = c.in_ok-span.span in
    let start : Giving = c.in_ok-giving.giving in
    let done : Giving = c.in_ok-given.given in
    let b : GivenBatch = c.in_ok-ended.field-0 in
    let lent = lent_turn g.D.Disk.history w start texts span.first.items
    (option_map (λ v. v.items) span.end) c.deref.ensures.value c.as_deref.ensures.value c.in_ok-span.ensures c.args.file.now
    c.fold_documents_within.new.self (Ok done) c.args.home.now (sym c.if-is_stopped.ensures) c.in_ok-given.ensures.reads in
    asked_on g.D.Disk.history (IsAsked c.args.home.now) (λ now of (b : GivenBatch). IsGivenBatch w c.args.asked.now of.documents b)
    c.args.file.now c.fold_documents_within.new.self (λ now of done. AreLent w start of.documents done) done (Ok b) lent
    (λ now of asked lent. given_batch w c.args.asked.now start done of.documents b c.in_ok-giving.ensures lent c.in_ok-ended.ensures.ended)
