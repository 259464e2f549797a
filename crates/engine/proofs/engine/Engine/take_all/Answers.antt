use Rattle.std.proofs.lemmas.Result.{err_from_is_err_and}
use Rattle.engine.proofs.IndexingLemmas.{entered_all, entered_none, entered_on, entered_refused, enters_none, enters_unread, enters_without_memory}
use Rattle.engine.proofs.engine.Engine.take_all.Goals as goal

pub returns-in_err-number : goal.returns-in_err-number
returns-in_err-number g c =
    let p = err_from_is_err_and c.from_residual.result c.from_residual.ensures.1 in
    rw (p.1, p.2)
    (enters_unread g.D.Disk.history c.args.namespace.now c.args.made.now c.args.self.now c.number_of.new.self c.in_err-number.field-0.0 c.in_err-number.ensures)

pub returns-in_default : goal.returns-in_default
returns-in_default g c =
    enters_none g.D.Disk.history c.args.namespace.now c.args.made.now c.args.self.now c.number_of.new.self (rw c.in_default.is at c.in_ok-number.ensures)

pub returns-in_err-walk : goal.returns-in_err-walk
returns-in_err-walk g c =
    let p = err_from_is_err_and c.from_residual-in_err-walk.result c.from_residual-in_err-walk.ensures.1 in
    rw (p.1, p.2)
    (enters_without_memory g.D.Disk.history c.args.namespace.now c.args.made.now c.args.self.now c.number_of.new.self c.in_ok-number.ensures.reads)

pub batches-init : goal.batches-init
batches-init g c =
    entered_none g.D.Disk.history c.args.namespace.now c.args.made.now c.args.self.now c.number_of.new.self c.in-Some.number c.in_ok-walk.walk
    c.requires.running
    (rw c.in-Some.is at c.in_ok-number.ensures) c.in_ok-walk.ensures

pub take_batch-requires : goal.take_batch-requires
take_batch-requires g c = record { sound = c.batches.invariant.reads.sound }

pub batches-preserved : goal.batches-preserved
batches-preserved g c =
    entered_on g.D.Disk.history c.args.namespace.now c.args.made.now c.args.self.now c.batches.self c.take_batch.new.self c.batches.made c.take_batch.new.made
    c.batches.walk c.take_batch.new.walk c.batches.invariant
    (rw c.if-branch.true at c.in_ok-take_batch.ensures.tries)

pub returns-in_err-take_batch : goal.returns-in_err-take_batch
returns-in_err-take_batch g c =
    let p = err_from_is_err_and c.from_residual-in_err-take_batch.result c.from_residual-in_err-take_batch.ensures.1 in
    rw (p.1, p.2)
    (entered_refused g.D.Disk.history c.args.namespace.now c.args.made.now c.args.self.now c.batches.self c.take_batch.new.self c.batches.made
    c.take_batch.new.made c.batches.walk c.take_batch.new.walk c.batches.invariant
    c.take_batch.new.made c.in_err-take_batch.field-0.0 c.in_err-take_batch.ensures.tries)

pub returns : goal.returns
returns g c =
    entered_all g.D.Disk.history c.args.namespace.now c.args.made.now c.args.self.now c.batches.self c.take_batch.new.self c.batches.made c.take_batch.new.made
    c.batches.walk c.take_batch.new.walk c.batches.invariant
    (rw c.if-branch.false at c.in_ok-take_batch.ensures.tries)
