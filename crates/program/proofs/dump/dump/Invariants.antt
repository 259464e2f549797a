use Rattle.server.specs.Durable.{IsSound}
use Rattle.program.proofs.dump.dump.Given as goal

abbrev pub invariant-loop : goal.invariant-loop
invariant-loop g l = IsSound g.D.Disk.history l.core
