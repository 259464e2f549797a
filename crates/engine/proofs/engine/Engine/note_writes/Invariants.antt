use Rattle.std.proofs.Common.{drop}
use Rattle.engine.proofs.UpdateSteps.{WritesNoted}
use Rattle.engine.proofs.engine.Engine.note_writes.Given as goal

abbrev pub invariant-writes : goal.invariant-writes
invariant-writes g l =
    WritesNoted g.D.Disk.history l.namespace l.writes (drop l.write-index l.writes) l.initial.home l.home l.initial.edits l.edits l.initial.self l.self
