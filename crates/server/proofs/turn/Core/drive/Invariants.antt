use Rattle.server.proofs.Histories.{SoFar}
use Rattle.server.proofs.turn.Core.drive.Given as goal

abbrev pub invariant-steps : goal.invariant-steps
invariant-steps g l = SoFar g.D.Disk.history l.initial.self l.steps l.i l.out l.self
