use Rattle.std.proofs.Common.{◌≡◌, take, drop}
use Rattle.server.specs.Taking.{closed_connections}
use Rattle.server.proofs.connection.close_connections.Given as goal

abbrev pub invariant-connections : goal.invariant-connections
invariant-connections l = record {
  done : take l.i l.connections ≡ closed_connections (take l.i l.initial.connections) l.faults;
  left : drop l.i l.connections ≡ drop l.i l.initial.connections;
}
