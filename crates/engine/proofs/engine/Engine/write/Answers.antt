use Rattle.std.proofs.Common.{sym, ◌∙◌}
use Rattle.std.proofs.lemmas.Result.{err_from_is_err_and}
use Rattle.engine.proofs.WritingLemmas.{writes_done, writes_stopped, writes_undone}
use Rattle.engine.proofs.engine.Engine.write.Goals as goal

pub returns-then-is_stopped : goal.returns-then-is_stopped
returns-then-is_stopped g c = writes_stopped g.D.Disk.history c.args.self.now c.requires.1.1.0 g.after (sym c.is_stopped.ensures ∙ c.if-is_stopped.true)

pub returns-in_err-apply : goal.returns-in_err-apply
returns-in_err-apply g c =
    let p = err_from_is_err_and c.from_residual.result c.from_residual.ensures.1 in
    rw (p.1, p.2)
    (writes_undone g.D.Disk.history c.args.self.now c.requires.1.1.0 c.args.edits.now g.after c.requires.1.1.1.1
    (sym c.is_stopped.ensures ∙ c.if-is_stopped.false) c.apply.new.self c.in_err-apply.field-0.0 c.in_err-apply.ensures)

pub returns : goal.returns
returns g c =
    writes_done g.D.Disk.history c.args.self.now c.requires.1.1.0 c.args.edits.now g.after c.requires.1.1.1.1
    (sym c.is_stopped.ensures ∙ c.if-is_stopped.false) c.apply.new.self c.change.new.self c.change.ensures c.requires.1.1.1.0 c.in_ok-apply.ensures
