-- A turn runs its messages in ascending connection number.
use Rattle.std.specs.Prelude.{◌≡◌, ℕ, ◌<◌, true, List, [], ◌∷◌}
use Rattle.server.specs.ServerState.{are_ascending}
use Rattle.server.specs.Turn.{Call, calls}
use Rattle.server.specs.declared.connection.Connection.{Connection}

-- each call's connection has a greater number than the one before it, and than this one
abbrev pub AreCalledAbove : ℕ → List Call → Type 0
AreCalledAbove low [] = Unit {0}
AreCalledAbove low (c ∷ cs) = (low < c.connection.id) × AreCalledAbove c.connection.id cs

abbrev pub AreCalledInOrder : List Call → Type 0
AreCalledInOrder [] = Unit {0}
AreCalledInOrder (c ∷ cs) = AreCalledAbove c.connection.id cs

abbrev pub CallsAscend : Type 0
CallsAscend = (connections : List Connection) → are_ascending connections ≡ true
    → AreCalledInOrder (calls connections)
