-- What is asked of the server for a socket's message, and on which connection.
use Rattle.std.specs.Prelude.{◌≡◌, ◌≤◌, ◌+◌, ◌⊎◌, ℕ, false, List, length, slice_set}
use Rattle.std.specs.Prelude.{Ok, Option, Some, None}
use Rattle.bson.specs.Limits.{message_limit}
use Rattle.bson.specs.Spelling.{frame_of, pairs_bytes}
use Rattle.bson.specs.Tree.{Pairs}
use Rattle.op_msg.specs.Request.{document_in}
use Rattle.drivers.specs.Answering.{kill_command}
use Rattle.server.specs.ServerState.{ServerState, fed, find_connection, is_closed_in}
use Rattle.driver_sockets.specs.Choosing.{loan_to_end}
use Rattle.driver_sockets.specs.Lending.{loan_at}
use Rattle.driver_sockets.specs.Questions.{question_bytes}
use Rattle.driver_sockets.specs.declared.lending.Loan.{Loan}
use Rattle.driver_sockets.specs.declared.open_cursors.OpenCursor.{OpenCursor}

-- The command has room in a message, of which it is read again. It came so on an open connection,
-- behind what waited there, and nothing else came on any.
pub record IsAskedOn (old : ServerState) (id : ℕ) (command : Pairs)
    (new : ServerState) : Type 0 where
  pub room : length (frame_of (pairs_bytes command)) + 21 ≤ message_limit
  pub reads : document_in (frame_of (pairs_bytes command)) ≡ Ok command
  pub takes : is_closed_in (find_connection old.connections id) ≡ false
  pub came : new ≡ fed old id (question_bytes command)

-- A connection that was at rest is lent to this socket, or to none, and what is wanted is asked on
-- it.
pub record AsksOn (socket : Option ℕ) (what : Option Pairs) (old new : List (Option Loan))
    (before after : ServerState) : Type 0 where
  pub command : Pairs
  pub is : what ≡ Some command
  pub id : ℕ
  pub loan : Loan
  pub of : loan.socket ≡ socket
  pub rest : loan_at old id ≡ None
  pub lent : new ≡ slice_set old id (Some loan)
  pub there : loan_at new id ≡ Some loan
  pub asked : IsAskedOn before id command after

-- Nothing is lent, and nothing came on any connection; or what is wanted is asked on the one that
-- is lent.
abbrev pub AsksWanted : Option ℕ → Option Pairs → List (Option Loan) → List (Option Loan)
    → ServerState → ServerState → Type 0
AsksWanted socket what old new before after =
    ((new ≡ old) × (after ≡ before)) ⊎ AsksOn socket what old new before after

-- The cursor is ended: what says so is asked of its owner, which was at rest and is lent to no
-- socket.
pub record EndsOn (cursor : OpenCursor) (old new : List (Option Loan))
    (before after : ServerState) : Type 0 where
  pub rest : loan_at old cursor.owner ≡ None
  pub lent : new ≡ slice_set old cursor.owner (Some (loan_to_end cursor))
  pub asked : IsAskedOn before cursor.owner
      (kill_command cursor.database cursor.collection cursor.id) after

-- This cursor is ended, if it is one.
abbrev pub EndsOne : Option OpenCursor → List (Option Loan) → List (Option Loan) → ServerState
    → ServerState → Type 0
EndsOne None old new before after = (new ≡ old) × (after ≡ before)
EndsOne (Some cursor) old new before after = EndsOn cursor old new before after
