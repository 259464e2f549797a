use Rattle.std.proofs.Common.{refl}
use Rattle.std.proofs.lemmas.Result.{err_from_is_err_and}
use Rattle.pinned_cursors.proofs.OrderLemmas.{none_read, read_out, some_read}
use Rattle.pinned_cursors.proofs.next_batches.next_in_order.Goals as goal

pub returns-in_err-found-clause-reads : goal.returns-in_err-found-clause-reads
returns-in_err-found-clause-reads g c =
    let e = err_from_is_err_and c.from_residual.result c.from_residual.ensures.1 in
    rw (e.1, e.2)
    (none_read g.D.Disk.history c.args.version c.args.number c.args.walk.now c.args.asked.now c.args.file.now c.batch_in_order.new.file
    c.in_err-found.field-0.0 c.in_err-found.ensures.reads)

pub returns-in-Some-clause-reads : goal.returns-in-Some-clause-reads
returns-in-Some-clause-reads g c =
    some_read g.D.Disk.history c.args.version c.args.number c.args.walk.now c.args.asked.now c.args.file.now c.batch_in_order.new.file
    c.in_ok-found.found c.in-Some.batch c.in-Some.is c.in_ok-found.ensures.reads

pub returns-in-None-clause-reads : goal.returns-in-None-clause-reads
returns-in-None-clause-reads g c =
    read_out g.D.Disk.history c.args.version c.args.number c.args.walk.now c.args.asked.now c.args.file.now c.batch_in_order.new.file
    c.in_ok-found.found _ refl c.in_ok-found.ensures.reads
