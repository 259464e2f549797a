use Rattle.std.proofs.Common.{◌≡◌, drop}
use Rattle.server.specs.ServerState.{place_in}
use Rattle.server.proofs.Places.{plus}
use Rattle.server.proofs.connection.place_of.Given as goal

abbrev pub invariant-connections : goal.invariant-connections
invariant-connections l = place_in l.connections l.id ≡ plus l.i (place_in (drop l.i l.connections) l.id)
