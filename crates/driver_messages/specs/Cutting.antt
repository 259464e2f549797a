-- The messages of a socket, wherever its bytes are cut into chunks.
use Rattle.std.specs.Prelude.{◌≡◌, ℕ, List, [], ◌∷◌, ◌++◌, Result, Ok, Err, Option, Some, None}
use Rattle.driver_messages.specs.Incoming.{next_message}
use Rattle.driver_messages.specs.declared.message.Message.{Message}
use Rattle.driver_messages.specs.declared.stream_fault.StreamFault.{StreamFault}

-- these messages stand at the front, one after the other, and the rest follows
abbrev pub Begins : List ℕ → List Message → List ℕ → Type 0
Begins bytes [] rest = rest ≡ bytes
Begins bytes (message ∷ messages) rest =
    (after : List ℕ) × (next_message bytes ≡ Ok (Some (message, after)))
    × Begins after messages rest

-- what ends the messages: no whole message, or a fault
abbrev pub ending : Option StreamFault → Result (Option (Message × List ℕ)) StreamFault
ending None = Ok None
ending (Some fault) = Err fault

-- a chunk of a socket's bytes, and the messages that were taken once it had come
pub record Arrival : Type 0 where
  pub chunk : List ℕ
  pub messages : List Message

-- The chunks came one after the other, the first behind these bytes, and behind each its messages
-- were taken from the front; these bytes are left.
abbrev pub AreTaken : List ℕ → List Arrival → List ℕ → Type 0
AreTaken waiting [] left = left ≡ waiting
AreTaken waiting (a ∷ later) left =
    (rest : List ℕ) × Begins (waiting ++ a.chunk) a.messages rest × AreTaken rest later left

abbrev pub bytes_of : List Arrival → List ℕ
bytes_of [] = []
bytes_of (a ∷ later) = a.chunk ++ bytes_of later

abbrev pub messages_of : List Arrival → List Message
messages_of [] = []
messages_of (a ∷ later) = a.messages ++ messages_of later

-- What is taken is what stands at the front of all the bytes that came, one message after the
-- other, and what is left follows it.
abbrev pub AreTakenInOrder : Type 0
AreTakenInOrder = (arrivals : List Arrival) (left : List ℕ) → AreTaken [] arrivals left
    → Begins (bytes_of arrivals) (messages_of arrivals) left

-- Once all has been taken, the same bytes have given the same messages, have the same fault, if
-- there is one, and leave the same, wherever they were cut, and however many messages were taken
-- behind each chunk.
abbrev pub CutsMakeNoDifference : Type 0
CutsMakeNoDifference =
    (arrivals others : List Arrival) (left rest : List ℕ) (fault other : Option StreamFault)
    → bytes_of arrivals ≡ bytes_of others
    → AreTaken [] arrivals left → next_message left ≡ ending fault
    → AreTaken [] others rest → next_message rest ≡ ending other
    → (messages_of arrivals ≡ messages_of others) × (fault ≡ other) × (left ≡ rest)
