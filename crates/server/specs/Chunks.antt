-- Bytes that come in two chunks, one after the other, do what they do in one. So a history doesn't
-- change where its bytes are cut anew between two turns; that a message is the same whichever turns
-- come between its bytes is what the laws of streams say.
use Rattle.std.specs.Prelude.{◌≡◌, ℕ, List, ◌++◌}
use Rattle.server.specs.ServerState.{ServerState, fed}

abbrev pub ChunksJoin : Type 0
ChunksJoin = (state : ServerState) (id : ℕ) (first later : List ℕ)
    → fed (fed state id first) id later ≡ fed state id (first ++ later)
