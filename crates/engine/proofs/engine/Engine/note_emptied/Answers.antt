use Rattle.std.proofs.Common.{sym, ◌∙◌}
use Rattle.std.proofs.lemmas.Result.{err_from_is_err_and}
use Rattle.engine.proofs.DroppingLemmas.{emptied_all, emptied_none, emptied_on, emptied_refused, emptied_stopped, emptied_without_memory}
use Rattle.engine.proofs.engine.Engine.note_emptied.Goals as goal

pub returns-then-is_stopped : goal.returns-then-is_stopped
returns-then-is_stopped g c =
    emptied_stopped g.D.Disk.history c.args.home.now c.args.edits.now c.args.self.now c.requires.sound (sym c.is_stopped.ensures ∙ c.if-is_stopped.true)

pub returns-in_err-walk : goal.returns-in_err-walk
returns-in_err-walk g c =
    let p = err_from_is_err_and c.from_residual.result c.from_residual.ensures.1 in
    rw (p.1, p.2) (emptied_without_memory g.D.Disk.history c.args.home.now c.args.edits.now c.args.self.now c.requires.sound)

pub batches-init : goal.batches-init
batches-init g c =
    emptied_none g.D.Disk.history c.args.home.now c.args.edits.now c.args.self.now c.in_ok-walk.walk c.requires.sound
    (sym c.is_stopped.ensures ∙ c.if-is_stopped.false) c.in_ok-walk.ensures

pub batches-preserved : goal.batches-preserved
batches-preserved g c =
    emptied_on g.D.Disk.history c.args.home.now c.args.edits.now c.args.self.now c.batches.self c.note_batch.new.self c.batches.walk c.note_batch.new.walk
    c.batches.edits c.note_batch.new.edits c.batches.invariant
    (rw c.if-branch.true at c.in_ok-note_batch.ensures.looks)

pub returns-in_err-note_batch : goal.returns-in_err-note_batch
returns-in_err-note_batch g c =
    let p = err_from_is_err_and c.from_residual-in_err-note_batch.result c.from_residual-in_err-note_batch.ensures.1 in
    rw (p.1, p.2)
    (emptied_refused g.D.Disk.history c.args.home.now c.args.edits.now c.args.self.now c.batches.self c.note_batch.new.self c.batches.walk
    c.note_batch.new.walk c.batches.edits c.note_batch.new.edits c.batches.invariant
    c.note_batch.new.edits c.in_err-note_batch.field-0.0 c.in_err-note_batch.ensures.looks)

pub returns : goal.returns
returns g c =
    emptied_all g.D.Disk.history c.args.home.now c.args.edits.now c.args.self.now c.batches.self c.note_batch.new.self c.batches.walk c.note_batch.new.walk
    c.batches.edits c.note_batch.new.edits c.batches.invariant
    (rw c.if-branch.false at c.in_ok-note_batch.ensures.looks)
