use Rattle.std.proofs.Common.{◌≡◌}
use Rattle.trusted_disk.specs.Trusting.{trusted_history}
use Rattle.server.specs.Dump.{lines_in}
use Rattle.server.specs.Durable.{IsSound}
use Rattle.server.specs.View.{state}
use Rattle.server.proofs.Dumping.{HasListed}
use Rattle.server.proofs.turn.Core.list_rest.Given as goal

abbrev pub invariant-batches : goal.invariant-batches
invariant-batches g l = record {
  sound : IsSound g.D.Disk.history l.self;
  same : state l.self ≡ state l.fn.self;
  come : HasListed (trusted_history g.D.Disk.history) l.fn.walk l.fn.self.engine (lines_in l.lines) l.walk l.self.engine;
}
