-- What the turns of a history take from one connection, beside the stream of all bytes that came on
-- it. A turn takes the message at the front of the bytes that no message has taken yet; the law
-- says that these messages, one after the other, are those at the front of the whole stream,
-- whatever chunks the bytes came in, whenever the turns were made, and whatever other connections
-- did. Where a fault closed the connection, that fault stands behind them.
use Rattle.std.specs.Prelude.{◌≡◌, ◌≢◌, ℕ, ◌==◌, if◌then◌else◌, true, List, [], ◌∷◌, ◌++◌, Err}
use Rattle.std.specs.Prelude.{Option, Some, None, unwrap_or}
use Rattle.op_msg.specs.Frame.{Frame, front}
use Rattle.op_msg.specs.Stream.{Begins}
use Rattle.op_msg.specs.declared.fault.FrameFault.{FrameFault}
use Rattle.server.specs.ServerState.{ServerState, are_ascending, ended, fed, find_connection}
use Rattle.server.specs.ServerState.{new_connection}
use Rattle.server.specs.Turn.{Call, calls}
use Rattle.server.specs.Moment.{Moment, TurnEnd}
use Rattle.server.specs.History.{Happens}
use Rattle.server.specs.declared.connection.Connection.{Connection}
use Rattle.server.specs.declared.step.Step.{Step}
use Rattle.server.specs.declared.step.Step.TheVariants as steps

-- the connection of a number, or a new one, of which nothing has come
abbrev pub connection_in : List Connection → ℕ → Connection
connection_in connections id = unwrap_or (find_connection connections id) (new_connection id [])

-- the connection doesn't end in these steps
abbrev pub DoesNotEnd : ℕ → List Step → Type 0
DoesNotEnd id [] = Unit {0}
DoesNotEnd id (steps.Bytes n chunk ∷ later) = DoesNotEnd id later
DoesNotEnd id (steps.Turn ∷ later) = DoesNotEnd id later
DoesNotEnd id (steps.Gone n ∷ later) = (n ≢ id) × DoesNotEnd id later

-- the bytes that came on it
abbrev pub bytes_from : ℕ → List Step → List ℕ
bytes_from id [] = []
bytes_from id (steps.Bytes n chunk ∷ later) =
    if n == id then chunk.items ++ bytes_from id later else bytes_from id later
bytes_from id (steps.Turn ∷ later) = bytes_from id later
bytes_from id (steps.Gone n ∷ later) = bytes_from id later

-- its messages among those of a turn
abbrev pub messages_from : ℕ → List Call → List Frame
messages_from id [] = []
messages_from id (c ∷ cs) =
    if c.connection.id == id then c.frame ∷ messages_from id cs else messages_from id cs

-- the messages that the turns of a history take from it
abbrev pub taken_from : (id : ℕ) (at : Moment) (state : ServerState) (all : List Step)
    (given : List (ℕ × List ℕ)) (ends : List TurnEnd) (new : ServerState)
    → Happens at state all given ends new → List Frame
taken_from id at state [] given ends new h = []
taken_from id at state (steps.Bytes n chunk ∷ later) given ends new h =
    taken_from id at (fed state n chunk.items) later given ends new h
taken_from id at state (steps.Gone n ∷ later) given ends new h =
    taken_from id at (ended state n) later given ends new h
taken_from id at state (steps.Turn ∷ later) given ends new h =
    messages_from id (calls state.connections) ++ taken_from id h.3.at h.0 later h.2 h.4 new h.9

-- What follows the messages in the stream: the bytes that no message has taken, or those with the
-- fault at their front.
abbrev pub IsLeft : Option FrameFault → List ℕ → List ℕ → Type 0
IsLeft None unread rest = rest ≡ unread
IsLeft (Some fault) unread rest = front rest ≡ Err fault

-- these messages stand at the front of a stream, and what follows them is what the connection has
-- left
pub record AreAtFront (stream : List ℕ) (messages : List Frame)
    (connection : Connection) : Type 0 where
  pub rest : List ℕ
  pub begins : Begins stream messages rest
  pub is_left : IsLeft connection.fault connection.frames rest

abbrev pub TakesTheStream : Type 0
TakesTheStream = (id : ℕ) (at : Moment) (state : ServerState) (all : List Step)
    (given : List (ℕ × List ℕ)) (ends : List TurnEnd) (new : ServerState)
    (h : Happens at state all given ends new) → are_ascending state.connections ≡ true
    → (connection_in state.connections id).fault ≡ None → DoesNotEnd id all
    → AreAtFront ((connection_in state.connections id).frames ++ bytes_from id all)
    (taken_from id at state all given ends new h) (connection_in new.connections id)
