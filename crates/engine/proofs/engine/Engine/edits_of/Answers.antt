use Rattle.std.proofs.lemmas.Result.{err_from_is_err_and}
use Rattle.engine.proofs.UpdateSteps.{edits_made, edits_refused, edits_untargeted}
use Rattle.engine.proofs.engine.Engine.edits_of.Goals as goal

pub returns-in_err-home : goal.returns-in_err-home
returns-in_err-home g c =
    let p = err_from_is_err_and c.from_residual.result c.from_residual.ensures.1 in
    rw (p.1, p.2)
    (edits_untargeted g.D.Disk.history c.args.namespace.now c.args.writes.now c.args.self.now c.target.new.self c.target.new.edits c.in_err-home.field-0.0
    c.in_err-home.ensures.tries)

pub returns-in_err-note_writes : goal.returns-in_err-note_writes
returns-in_err-note_writes g c =
    let p = err_from_is_err_and c.from_residual-in_err-note_writes.result c.from_residual-in_err-note_writes.ensures.1 in
    rw (p.1, p.2)
    (edits_refused g.D.Disk.history c.args.namespace.now c.args.writes.now c.args.self.now c.target.new.self c.target.new.edits c.in_ok-home.home
    c.in_ok-home.ensures.tries
    c.note_writes.new.self c.note_writes.new.home c.note_writes.new.edits c.in_err-note_writes.field-0.0 c.in_err-note_writes.ensures)

pub returns : goal.returns
returns g c =
    edits_made g.D.Disk.history c.args.namespace.now c.args.writes.now c.args.self.now c.target.new.self c.target.new.edits c.in_ok-home.home
    c.in_ok-home.ensures.tries
    c.note_writes.new.self c.note_writes.new.home c.note_writes.new.edits c.in_ok-note_writes.ensures
