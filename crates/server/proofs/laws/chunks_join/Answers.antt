use Rattle.server.proofs.Places.{fed_twice}
use Rattle.server.proofs.laws.chunks_join.Goals as goal

pub returns : goal.returns
returns c state id first later = λ i. record { world = state.world; connections = fed_twice state.connections id first later i }
