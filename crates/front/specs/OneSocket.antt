-- What a turn does with one socket: it takes the message at its front, if it works on none, and
-- asks what is wanted for it, if it can.
use Rattle.std.specs.Prelude.{◌≡◌, ◌⊎◌, ℕ, Bool, true, false, ◌&&◌, is_some, if◌then◌else◌}
use Rattle.std.specs.Prelude.{nat_lt, List, length, slice_set, Option, Some, None}
use Rattle.std.specs.List.{list_any}
use Rattle.bson.specs.Spelling.{frame_of, pairs_bytes}
use Rattle.bson.specs.Tree.{Pairs}
use Rattle.driver_messages.specs.Incoming.{next_message}
use Rattle.drivers.specs.declared.server_info.ServerInfo.{ServerInfo}
use Rattle.server.specs.ServerState.{ServerState}
use Rattle.server.specs.View.{state}
use Rattle.server.specs.declared.turn.Core.{Core}
use Rattle.driver_sockets.specs.Alone.{is_alone}
use Rattle.front.specs.Asking.{IsAskedOn}
use Rattle.driver_sockets.specs.Choosing.{connection_for, loan_of}
use Rattle.driver_sockets.specs.Questions.{pending, waiting}
use Rattle.driver_sockets.specs.Replying.{Begins, IsClosed, TakesReply, WaitsOrCloses, long_reply}
use Rattle.driver_sockets.specs.declared.job.Question.{Question}
use Rattle.driver_sockets.specs.declared.lending.Lending.{Lending}
use Rattle.driver_sockets.specs.declared.lending.Loan.{Loan}
use Rattle.driver_sockets.specs.declared.open_cursors.OpenCursor.{OpenCursor}
use Rattle.driver_sockets.specs.declared.socket.Socket.{Socket}

-- ---- asking

-- What one socket is served with, and what that changes: the loans, the server, the socket.
pub record Seat : Type 0 where
  pub loans : List (Option Loan)
  pub server : ServerState
  pub socket : Socket

abbrev pub seat : {D : Type 0} → Lending → Core D → Socket → Seat
seat lending core socket =
    record { loans = lending.loans; server = state core; socket = socket }

-- the command has no room in a message
abbrev pub is_long : Pairs → Bool
is_long command = nat_lt 1048555 (length (frame_of (pairs_bytes command)))

-- The question is asked on this connection, which is lent for it, and the socket waits.
pub record IsAsked (number id : ℕ) (question : Question) (old new : Seat) : Type 0 where
  pub asked : IsAskedOn old.server id question.command new.server
  pub lent : new.loans ≡ slice_set old.loans id (Some (loan_of number question))
  pub waits : new.socket ≡ waiting old.socket

-- It has no room in a message, and isn't asked: its message goes on as if that had been replied.
pub record IsSeatRefused (old new : Seat) : Type 0 where
  pub loans : new.loans ≡ old.loans
  pub server : new.server ≡ old.server
  pub told : TakesReply old.socket old.socket.job long_reply new.socket

abbrev pub AsksOrRefuses : Bool → ℕ → ℕ → Question → Seat → Seat → Type 0
AsksOrRefuses true number id question old new = IsSeatRefused old new
AsksOrRefuses false number id question old new = IsAsked number id question old new

abbrev pub AsksBy : Option ℕ → ℕ → Question → Seat → Seat → Type 0
AsksBy None number question old new = new ≡ old
AsksBy (Some id) number question old new =
    AsksOrRefuses (is_long question.command) number id question old new

-- What is wanted, if something is, is asked, if a connection is there for it.
abbrev pub Asking : ℕ → List OpenCursor → Option Question → Seat → Seat → Type 0
Asking number cursors None old new = new ≡ old
Asking number cursors (Some question) old new =
    AsksBy (connection_for old.loans cursors question) number question old new

-- A message during which nobody else may ask waits until no connection is lent.
abbrev pub is_held : Seat → Bool
is_held seat = is_alone seat.socket && list_any is_some seat.loans

abbrev pub AsksUnless : Bool → ℕ → List OpenCursor → Seat → Seat → Type 0
AsksUnless true number cursors old new = new ≡ old
AsksUnless false number cursors old new =
    Asking number cursors (pending old.socket.job) old new

abbrev pub AsksFor : ℕ → List OpenCursor → Seat → Seat → Type 0
AsksFor number cursors old new = AsksUnless (is_held old) number cursors old new

-- The message at the front is begun, if none is worked on, and then what is wanted is asked.
pub record Serves (info : ServerInfo) (number : ℕ) (cursors : List OpenCursor)
    (old new : Seat) : Type 0 where
  pub begun : Socket
  pub begins : Begins info old.socket old.socket.is_over old.socket.job
      (next_message old.socket.incoming) begun
  pub asks : AsksFor number cursors (record old { socket = begun }) new

-- ---- where memory runs out

-- Nothing is asked, and the socket is to be closed.
pub record Closes (old new : Seat) : Type 0 where
  pub rest : new ≡ record old { socket = new.socket }
  pub socket : IsClosed old.socket new.socket

-- The message at the front is not begun: it waits for a later turn, or the socket is to be closed.
pub record BeginsNone (old new : Seat) : Type 0 where
  pub rest : new ≡ record old { socket = new.socket }
  pub socket : WaitsOrCloses old.socket (next_message old.socket.incoming) new.socket

-- It is begun, and its question isn't asked.
pub record AsksNone (info : ServerInfo) (old new : Seat) : Type 0 where
  pub begun : Socket
  pub begins : Begins info old.socket old.socket.is_over old.socket.job
      (next_message old.socket.incoming) begun
  pub closes : Closes (record old { socket = begun }) new

abbrev pub RunsOut : ServerInfo → Seat → Seat → Type 0
RunsOut info old new = BeginsNone old new ⊎ AsksNone info old new
