-- What a turn asks, of which sockets, and why one that waits isn't asked for.
use Rattle.std.specs.Prelude.{◌≡◌, ◌⊎◌, ◌<◌, ℕ, ◌+◌, ◌%◌, true, false, List}
use Rattle.std.specs.Prelude.{[], ◌∷◌, length, slice_index_or, is_none, Option, Some}
use Rattle.std.specs.List.{Contains, list_any}
use Rattle.drivers.specs.declared.server_info.ServerInfo.{ServerInfo}
use Rattle.server.specs.ServerState.{ServerState}
use Rattle.server.specs.View.{state}
use Rattle.driver_sockets.specs.Alone.{is_alone}
use Rattle.driver_sockets.specs.Info.{after_ids, info_of}
use Rattle.driver_sockets.specs.Questions.{wanted}
use Rattle.front.specs.Asking.{AsksWanted}
use Rattle.front.specs.OneSocket.{RunsOut, Seat, Serves}
use Rattle.driver_sockets.specs.Serving.{waits}
use Rattle.front.specs.declared.front.Front.{Front}
use Rattle.driver_sockets.specs.declared.lending.Loan.{Loan}
use Rattle.driver_sockets.specs.declared.open_cursors.OpenCursor.{OpenCursor}
use Rattle.driver_sockets.specs.declared.socket.Socket.{Socket}

-- ---- what is asked

-- What a turn serves sockets with: which connections are lent, which cursors are open, what came to
-- the server, and where the object ids of the next message begin.
pub record Desk : Type 0 where
  pub loans : List (Option Loan)
  pub cursors : List OpenCursor
  pub server : ServerState
  pub next_id : ℕ

abbrev pub desk : {C D : Type 0} → Front C D → Desk
desk front = record {
  loans = front.lending.loans;
  cursors = front.cursors.list.items;
  server = state front.core;
  next_id = front.next_id;
}

abbrev pub seat_at : Desk → Socket → Seat
seat_at desk socket = record { loans = desk.loans; server = desk.server; socket = socket }

-- A socket is served, or memory runs out for it.
abbrev pub Does : ServerInfo → ℕ → List OpenCursor → Seat → Seat → Type 0
Does info number cursors old new = Serves info number cursors old new ⊎ RunsOut info old new

-- The socket of a number is served: what its message wants is asked, if something is, with object
-- ids of its own; the next one's begin behind them.
pub record ServesOne (before after : List Socket) (time number : ℕ) (old new : Desk) : Type 0 where
  pub behind : new.next_id ≡ after_ids old.next_id
  pub cursors : new.cursors ≡ old.cursors
  pub asks : (any : Socket) → AsksWanted (Some number)
      (wanted (info_of number time old.next_id) (slice_index_or before number any))
      old.loans new.loans old.server new.server
  pub as_planned : (any : Socket) → Does (info_of number time old.next_id) number old.cursors
      (seat_at old (slice_index_or before number any))
      (seat_at new (slice_index_or after number any))

-- The sockets of these numbers were served one after the other: each was as it stands in the first
-- list, and became what stands in the second.
abbrev pub AreServed : List Socket → List Socket → ℕ → List ℕ → Desk → Desk → Type 0
AreServed before after time [] old new = new ≡ old
AreServed before after time (n ∷ later) old new =
    (between : Desk) × ServesOne before after time n old between
    × AreServed before after time later between new

-- each of these numbers stands there once
abbrev pub EachOnce : List ℕ → Type 0
EachOnce [] = Unit {0}
EachOnce (n ∷ later) = (Contains later n → ⊥) × EachOnce later

-- ---- of which sockets

abbrev pub Waits : List Socket → ℕ → Type 0
Waits sockets n = (any : Socket) → waits (slice_index_or sockets n any) ≡ true

-- The message of this socket is one during which nobody else may ask.
abbrev pub AsksAlone : List Socket → ℕ → Type 0
AsksAlone sockets n = (any : Socket) → is_alone (slice_index_or sockets n any) ≡ true

-- Why a socket that waits isn't served: no connection is at rest any more; or one of those that
-- are served has a message, before the turn or after its questions, during which nobody else may
-- ask.
abbrev pub IsKeptWaiting : List ℕ → List Socket → List Socket → Desk → Type 0
IsKeptWaiting numbers before after desk =
    (list_any is_none desk.loans ≡ false)
    ⊎ ((n : ℕ) × Contains numbers n × (AsksAlone before n ⊎ AsksAlone after n))

-- ---- with which one it begins, and the next one

-- Whoever waits is served, and the next turn begins with the same number.
pub record IsWhole (numbers : List ℕ) (before : List Socket) (first next : ℕ) : Type 0 where
  pub all : (n : ℕ) (any : Socket) → n < length before → waits (slice_index_or before n any) ≡ true
      → Contains numbers n
  pub again : next ≡ first

-- No connection is at rest for one that waits: the next turn begins with that one.
pub record IsFull (numbers : List ℕ) (before : List Socket) (desk : Desk)
    (next : ℕ) : Type 0 where
  pub full : list_any is_none desk.loans ≡ false
  pub waits : Waits before next
  pub kept : Contains numbers next → ⊥

-- One that is served has a message during which nobody else may ask: the next turn begins behind
-- it.
pub record IsLast (numbers : List ℕ) (after : List Socket) (next : ℕ) : Type 0 where
  pub last : ℕ
  pub served : Contains numbers last
  pub alone : AsksAlone after last
  pub behind : next ≡ last + 1

-- Such a message goes on, and no other one is served.
pub record GoesOnWithOne (numbers : List ℕ) (before : List Socket) (first next : ℕ) : Type 0 where
  pub one : ℕ
  pub is : numbers ≡ one ∷ []
  pub alone : AsksAlone before one
  pub again : next ≡ first

-- What a turn asks: of some sockets, of each once and as it was before it, what their messages
-- want, on the connections that are lent, and nothing else on any. Each of them waits, or goes on
-- with a message during which nobody else may ask. Whoever waits is one of them, or is kept
-- waiting. All others are as they were. The socket of its first number is served, if it waits and a
-- connection is at rest, unless such a message goes on.
pub record AsksInTurn (before after : List Socket) (first next : ℕ) (old new : Desk) : Type 0 where
  pub time : ℕ
  pub numbers : List ℕ
  pub served : AreServed before after time numbers old new
  pub once : EachOnce numbers
  pub only : (n : ℕ) → Contains numbers n → Waits before n ⊎ AsksAlone before n
  pub all : (n : ℕ) (any : Socket) → n < length before → waits (slice_index_or before n any) ≡ true
      → Contains numbers n ⊎ IsKeptWaiting numbers before after new
  pub others : (n : ℕ) (any : Socket) → (Contains numbers n → ⊥)
      → slice_index_or after n any ≡ slice_index_or before n any
  pub begins : (n : ℕ) → n ≡ first % 1024 % length before → n < length before → Waits before n
      → Contains numbers n ⊎ ((list_any is_none old.loans ≡ false)
      ⊎ GoesOnWithOne numbers before first next)
  pub ends : IsWhole numbers before first next ⊎ (IsFull numbers before new next
      ⊎ (IsLast numbers after next ⊎ GoesOnWithOne numbers before first next))
