use Rattle.std.proofs.Common.{◌≡◌, take}
use Rattle.path.specs.declared.refusal.Refusal.TheVariants.{OutOfMemory}
use Rattle.server.specs.Turn.{faults, refused_frames}
use Rattle.server.specs.Taking.{faults_in}
use Rattle.server.specs.View.{frames_in}
use Rattle.server.proofs.preparing.prepare.Given as goal

abbrev pub invariant-connections : goal.invariant-connections
invariant-connections l = record {
  refusals : frames_in l.prepared.refusals.items ≡ refused_frames OutOfMemory (take l.connection-index l.connections);
  closed : l.prepared.closed.items ≡ faults (take l.connection-index l.connections);
  faults : l.prepared.faults.items ≡ faults_in (take l.connection-index l.connections);
}
