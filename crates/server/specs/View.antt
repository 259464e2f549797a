-- What a core and its answers stand for.
use Rattle.std.specs.Prelude.{ℕ, List, map, Vec}
use Rattle.engine.specs.View as engines
use Rattle.server.specs.ServerState.{ServerState}
use Rattle.server.specs.Turn.{Out}
use Rattle.server.specs.declared.turn.Core.{Core}
use Rattle.server.specs.declared.turn.TurnOut.{TurnOut}

abbrev pub state : {D : Type 0} → Core D → ServerState
state core = record { world = engines.world core.engine; connections = core.connections.items }

abbrev pub frames_in : {Z : Type 0} → List (ℕ × Vec ℕ Z) → List (ℕ × List ℕ)
frames_in fs = map (λ f. (f.0, f.1.items)) fs

abbrev pub out_of : TurnOut → Out
out_of out = record { replies = frames_in out.replies.items; closed = out.closed.items }
