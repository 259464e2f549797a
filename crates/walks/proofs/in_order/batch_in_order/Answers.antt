use Rattle.std.proofs.Common.{ℕ, Ok, Option, refl, subst}
use Rattle.std.proofs.lemmas.Result.{err_from_is_err_and}
use Rattle.std.specs.Global.{Vec}
use Rattle.walks.specs.declared.batches.GivenBatch.{GivenBatch}
use Rattle.walks.specs.declared.batches.Giving.{Giving}
use Rattle.walks.specs.declared.batches.Walk.{Walk}
use Rattle.walks.proofs.InOrderReadLemmas.{ReadsEntries, entries_many, entries_memory, entries_refused, ordered_read}
use Rattle.walks.proofs.in_order.batch_in_order.Goals as goal

pub returns-in_err-read-clause-reads : goal.returns-in_err-read-clause-reads
returns-in_err-read-clause-reads g c =
    let e = err_from_is_err_and c.from_residual-in_err-read.result c.from_residual-in_err-read.ensures.1 in
    rw (e.1, e.2)
    (entries_refused g.D.Disk.history c.args.version c.args.number c.args.walk.now c.args.asked.now c.in_ok-giving.giving c.give_in_order.new.giving
    c.args.file.now c.give_in_order.new.file c.in_err-read.field-0.0 c.in_err-read.ensures.reads)

pub returns-in_default-clause-reads : goal.returns-in_default-clause-reads
returns-in_default-clause-reads g c =
    entries_many g.D.Disk.history c.args.version c.args.number c.args.walk.now c.args.asked.now c.in_ok-giving.giving c.give_in_order.new.giving
    c.args.file.now c.give_in_order.new.file (Ok c.in_ok-read.read) (λ i. Ok (c.in_default.is i)) c.in_ok-read.ensures.reads

pub returns-in_err-batch-clause-reads : goal.returns-in_err-batch-clause-reads
returns-in_err-batch-clause-reads g c =
    let e = err_from_is_err_and c.from_residual-in_err-batch.result c.from_residual-in_err-batch.ensures.1 in
    rw e.1
    (entries_memory g.D.Disk.history c.args.version c.args.number c.args.walk.now c.args.asked.now c.in_ok-giving.giving c.give_in_order.new.giving
    c.args.file.now c.give_in_order.new.file (Ok c.in_ok-read.read) e.0 e.2 c.in_ok-read.ensures.reads)

pub returns-clause-reads : goal.returns-clause-reads
returns-clause-reads g c =
    let w = c.args.walk.now in
    let asked = c.args.asked.now in
    let walk : Walk = record { filter = w.filter; projection = w.projection; skip = w.skip; limit = w.limit; from = w.from } in
    let begun : Giving = c.in_ok-giving.giving in
    let done : Giving = c.give_in_order.new.giving in
    let ended : GivenBatch = c.in_ok-batch.batch in
    let b : GivenBatch = record { reply = ended.reply; count = ended.count; next = c.in-Some.left } in
    ordered_read g.D.Disk.history c.args.version c.args.number w asked begun done c.args.file.now c.give_in_order.new.file walk c.in-Some.left ended b
    refl refl refl refl c.in_ok-giving.ensures c.in_ok-batch.ensures.ended refl refl refl
    (subst (λ (o : Option (Option (Vec ℕ))). ReadsEntries g.D.Disk.history c.args.version c.args.number w asked begun done c.args.file.now
    c.give_in_order.new.file (Ok o)) c.in-Some.is c.in_ok-read.ensures.reads)
