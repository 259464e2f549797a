use Rattle.std.proofs.Common.{sym}
use Rattle.std.proofs.lemmas.Result.{err_from_is_err_and}
use Rattle.engine.proofs.Dumping.{dump_begun, dump_memory, dump_missing, dump_stopped, dump_unread}
use Rattle.engine.proofs.engine.Engine.walk_through.Goals as goal

pub returns-in_err-number : goal.returns-in_err-number
returns-in_err-number g c =
    let p = err_from_is_err_and c.from_residual.result c.from_residual.ensures.1 in
    rw (p.1, p.2) (dump_unread g.D.Disk.history c.args.self.now c.number_of.new.self c.args.namespace.now c.in_err-number.field-0.0 c.in_err-number.ensures)

pub returns-in_default : goal.returns-in_default
returns-in_default g c =
    dump_missing g.D.Disk.history c.args.self.now c.number_of.new.self c.args.namespace.now c.in_ok-number.field-0 c.in_ok-number.ensures c.in_default.is

pub returns-then-is_stopped : goal.returns-then-is_stopped
returns-then-is_stopped g c =
    dump_stopped g.D.Disk.history c.args.self.now c.number_of.new.self c.args.namespace.now c.in_ok-number.field-0 c.in_ok-number.ensures
    (sym c.if-is_stopped.ensures)

pub returns-in_err-walk : goal.returns-in_err-walk
returns-in_err-walk g c =
    let p = err_from_is_err_and c.from_residual-in_err-walk.result c.from_residual-in_err-walk.ensures.1 in
    rw (p.1, p.2) (dump_memory g.D.Disk.history c.args.self.now c.number_of.new.self c.args.namespace.now c.in_ok-number.field-0 c.in_ok-number.ensures)

pub returns : goal.returns
returns g c =
    dump_begun g.D.Disk.history c.args.self.now c.number_of.new.self c.args.namespace.now c.in_ok-number.field-0 c.in_ok-number.ensures
    c.in-Some.number c.in_ok-walk.field-0 c.in-Some.is (sym c.if-is_stopped.ensures) c.in_ok-walk.ensures
