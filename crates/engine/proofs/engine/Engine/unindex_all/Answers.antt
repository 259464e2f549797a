use Rattle.std.proofs.lemmas.Result.{err_from_is_err_and}
use Rattle.engine.proofs.UnindexingLemmas.{unindexed_all, unindexed_none, unindexed_on, unindexed_refused, unindexed_without_memory}
use Rattle.engine.proofs.engine.Engine.unindex_all.Goals as goal

pub returns-in_err-walk : goal.returns-in_err-walk
returns-in_err-walk g c =
    let p = err_from_is_err_and c.from_residual.result c.from_residual.ensures.1 in
    rw (p.1, p.2) (unindexed_without_memory g.D.Disk.history c.args.number c.args.index.now c.args.edits.now c.args.self.now c.requires.sound)

pub batches-init : goal.batches-init
batches-init g c =
    unindexed_none g.D.Disk.history c.args.number c.args.index.now c.args.edits.now c.args.self.now c.in_ok-walk.walk c.requires.sound c.requires.running
    c.in_ok-walk.ensures

pub unindex_batch-requires : goal.unindex_batch-requires
unindex_batch-requires g c = record { sound = c.batches.invariant.reads.sound }

pub batches-preserved : goal.batches-preserved
batches-preserved g c =
    unindexed_on g.D.Disk.history c.args.number c.args.index.now c.args.edits.now c.args.self.now c.batches.self c.unindex_batch.new.self c.batches.walk
    c.unindex_batch.new.walk c.batches.edits c.unindex_batch.new.edits
    c.batches.invariant (rw c.if-branch.true at c.in_ok-unindex_batch.ensures.looks)

pub returns-in_err-unindex_batch : goal.returns-in_err-unindex_batch
returns-in_err-unindex_batch g c =
    let p = err_from_is_err_and c.from_residual-in_err-unindex_batch.result c.from_residual-in_err-unindex_batch.ensures.1 in
    rw (p.1, p.2)
    (unindexed_refused g.D.Disk.history c.args.number c.args.index.now c.args.edits.now c.args.self.now c.batches.self c.unindex_batch.new.self c.batches.walk
    c.unindex_batch.new.walk c.batches.edits c.unindex_batch.new.edits
    c.batches.invariant c.unindex_batch.new.edits c.in_err-unindex_batch.field-0.0 c.in_err-unindex_batch.ensures.looks)

pub returns : goal.returns
returns g c =
    unindexed_all g.D.Disk.history c.args.number c.args.index.now c.args.edits.now c.args.self.now c.batches.self c.unindex_batch.new.self c.batches.walk
    c.unindex_batch.new.walk c.batches.edits c.unindex_batch.new.edits
    c.batches.invariant (rw c.if-branch.false at c.in_ok-unindex_batch.ensures.looks)
