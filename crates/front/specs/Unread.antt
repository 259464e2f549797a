-- What stands unread in the server: on a connection at rest nothing, and on one that is lent its
-- question alone. So no question stands behind another, and the server finds no fault on any.
use Rattle.std.specs.Prelude.{◌≡◌, ◌≤◌, ◌+◌, ◌⊎◌, ℕ, false, List, [], ◌∷◌, length, Option, Some}
use Rattle.std.specs.Prelude.{None, Ok}
use Rattle.bson.specs.Limits.{message_limit}
use Rattle.bson.specs.Spelling.{frame_of, pairs_bytes}
use Rattle.bson.specs.Tree.{Pairs}
use Rattle.op_msg.specs.Request.{document_in}
use Rattle.page.specs.History.{History}
use Rattle.server.specs.Durable.{is_stopped, IsSound}
use Rattle.server.specs.Streams.{connection_in}
use Rattle.server.specs.View.{state}
use Rattle.server.specs.declared.connection.Connection.{Connection}
use Rattle.server.specs.declared.turn.Core.{Core}
use Rattle.driver_sockets.specs.Questions.{question_bytes}
use Rattle.driver_sockets.specs.Lending.{loan_at}
use Rattle.driver_sockets.specs.declared.lending.Loan.{Loan}

-- These bytes stand unread on a connection, and no fault has closed it.
pub record HoldsUnread (bytes : List ℕ) (connection : Connection) : Type 0 where
  pub is : connection.frames ≡ bytes
  pub faultless : connection.fault ≡ None

-- One question stands there, and nothing else: a command, as a message of which it is read again.
pub record HoldsQuestion (connection : Connection) : Type 0 where
  pub command : Pairs
  pub room : length (frame_of (pairs_bytes command)) + 21 ≤ message_limit
  pub reads : document_in (frame_of (pairs_bytes command)) ≡ Ok command
  pub alone : HoldsUnread (question_bytes command) connection

abbrev pub HoldsFor : Option Loan → Connection → Type 0
HoldsFor None connection = HoldsUnread [] connection
HoldsFor (Some loan) connection = HoldsQuestion connection

abbrev pub HoldQuestions : List (Option Loan) → List Connection → Type 0
HoldQuestions loans connections =
    (id : ℕ) → HoldsFor (loan_at loans id) (connection_in connections id)

-- Nothing stands unread on any connection.
abbrev pub HoldNothing : List Connection → Type 0
HoldNothing connections = (id : ℕ) → HoldsUnread [] (connection_in connections id)

-- A server behind a front: until it stops, there stand the questions that connections are lent for,
-- one on each, and nothing else.
pub record IsBehind {D : Type 0} (history : D → History) (loans : List (Option Loan))
    (core : Core D) : Type 0 where
  pub sound : IsSound history core
  pub unread : is_stopped core ≡ false → HoldQuestions loans (state core).connections

-- The same, behind a turn that has taken all of them.
pub record HasTurned {D : Type 0} (history : D → History) (core : Core D) : Type 0 where
  pub sound : IsSound history core
  pub unread : HoldNothing (state core).connections

-- ---- a turn replies to all of them

-- no connection is lent
abbrev pub AreAtRest : List (Option Loan) → Type 0
AreAtRest loans = (id : ℕ) → loan_at loans id ≡ None

-- one of these frames is for the connection
abbrev pub HasReply : {F : Type 0} → ℕ → List (ℕ × F) → Type 0
HasReply id [] = ⊥
HasReply id (r ∷ rs) = (r.0 ≡ id) ⊎ HasReply id rs

-- each connection that is lent has a reply
abbrev pub HaveReplies : {F : Type 0} → List (Option Loan) → List (ℕ × F) → Type 0
HaveReplies loans replies = (id : ℕ) → (loan_at loans id ≡ None) ⊎ HasReply id replies
