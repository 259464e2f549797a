use Rattle.std.proofs.Common.{refl, subst, inr, []}
use Rattle.server.specs.Causes.{IsCaused}
use Rattle.page.specs.History.{KeepsWord}
use Rattle.server.specs.Durable.{disk_history, is_stopped, moment_of}
use Rattle.server.specs.Turn.{TurnFails}
use Rattle.server.specs.View.{state}
use Rattle.server.specs.declared.turn.TurnFault.{TurnFault}
use Rattle.server.proofs.service.CoreService.answer.Goals as goal

pub returns-in-Err-Memory-clause-answered : goal.returns-in-Err-Memory-clause-answered
returns-in-Err-Memory-clause-answered g c =
    let fails = subst
    (λ (f : TurnFault). TurnFails (KeepsWord (disk_history g.D.Disk.history c.turn.new.self))
    (IsCaused (moment_of g.D.Disk.history c.args.self.now) (moment_of g.D.Disk.history c.turn.new.self)) (state c.args.self.now) f (is_stopped c.args.self.now)
    (state c.turn.new.self))
    c.in-Err-Memory.field-0-is c.in-Err-Memory.ensures.fails in
    record {
      replies = [];
      closed = [];
      between = c.args.outlet.now;
      turn = inr (record { nothing = refl; none = refl; fails = fails });
      hands = refl;
      closes = refl;
    }
