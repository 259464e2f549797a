-- What one read and one write do to the bytes that a stream is known to give or to hold, and to
-- those that wait.
use Rattle.std.specs.Prelude.{ℕ, Bool, true, false, ◌<◌, ◌≤◌, ◌≡◌, List, Option, length, take, drop}
use Rattle.std.specs.Prelude.{⊤}
use Rattle.std.specs.Io.KnownBytes.{Appends, Consumes, Keeps}
use Rattle.sockets.specs.declared.stream.Incoming.{Incoming}
use Rattle.sockets.specs.declared.stream.Incoming.TheVariants as reads
use Rattle.sockets.specs.declared.stream.Outgoing.{Outgoing}
use Rattle.sockets.specs.declared.stream.Outgoing.TheVariants as writes

-- the bytes at the front of the buffer are the ones that the stream gave; an end says nothing
abbrev pub IsReadBy : Incoming → List ℕ → Option (List ℕ) → Option (List ℕ) → Type 0
IsReadBy (reads.Bytes count) buffer old new =
    (0 < count) × (count ≤ length buffer) × Consumes old new (take count buffer)
IsReadBy reads.Nothing buffer old new = Keeps old new
IsReadBy reads.Interrupted buffer old new = Keeps old new
IsReadBy reads.Ended buffer old new = ⊤

-- the stream took the first bytes, in order
abbrev pub IsWrittenBy : Outgoing → List ℕ → Option (List ℕ) → Option (List ℕ) → Type 0
IsWrittenBy (writes.Bytes count) bytes old new =
    (count ≤ length bytes) × Appends old new (take count bytes)
IsWrittenBy writes.Full bytes old new = Keeps old new
IsWrittenBy writes.Interrupted bytes old new = Keeps old new
IsWrittenBy writes.Failed bytes old new = ⊤

-- of the bytes that had to go the stream took the first, and the others wait: none is lost, doubled
-- or moved
abbrev pub IsSentBy : Outgoing → List ℕ → List ℕ → Option (List ℕ) → Option (List ℕ) → Type 0
IsSentBy (writes.Bytes count) bytes waiting old new =
    (count ≤ length bytes) × (waiting ≡ drop count bytes) × Appends old new (take count bytes)
IsSentBy writes.Full bytes waiting old new = (waiting ≡ bytes) × Keeps old new
IsSentBy writes.Interrupted bytes waiting old new = (waiting ≡ bytes) × Keeps old new
IsSentBy writes.Failed bytes waiting old new = ⊤

-- The same of any number of writes: of the bytes that had to go the first went, in order, and the
-- others wait.
pub record Sends (bytes waiting : List ℕ) (old new : Option (List ℕ)) : Type 0 where
  pub count : ℕ
  pub within : count ≤ length bytes
  pub waits : waiting ≡ drop count bytes
  pub goes : Appends old new (take count bytes)

abbrev pub has_failed : Outgoing → Bool
has_failed (writes.Bytes count) = false
has_failed writes.Full = false
has_failed writes.Interrupted = false
has_failed writes.Failed = true

-- The bytes that a stream gave are the ones that the service took, for this connection; where none
-- came, it took none.
abbrev pub IsFedBy : {S : Type 0} → (S → ℕ → List ℕ → S → Type 0) → ℕ → Incoming → List ℕ → S → S
    → Option (List ℕ) → Option (List ℕ) → Type 0
IsFedBy is_fed connection (reads.Bytes count) buffer before after old new =
    Consumes old new (take count buffer) × is_fed before connection (take count buffer) after
IsFedBy is_fed connection reads.Nothing buffer before after old new =
    Keeps old new × (after ≡ before)
IsFedBy is_fed connection reads.Interrupted buffer before after old new =
    Keeps old new × (after ≡ before)
IsFedBy is_fed connection reads.Ended buffer before after old new = ⊤
