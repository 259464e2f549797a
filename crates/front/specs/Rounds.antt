-- A turn of a front, whole: cursors are ended whose sockets have ended, the sockets' messages are
-- asked, the server makes a turn, what it replies goes to the messages, and the answers that are
-- ready are handed out.
use Rattle.std.specs.Prelude.{◌≡◌, ◌≢◌, ◌⊎◌, ◌≤◌, ℕ, zero, suc, List, [], ◌∷◌, slice_set, None}
use Rattle.std.specs.Prelude.{Option, Result, Ok, Err}
use Rattle.page.specs.History.{History}
use Rattle.server.specs.Durable.{is_stopped}
use Rattle.server.specs.ServerState.{ServerState, ended}
use Rattle.server.specs.Turning.{TakesTurn}
use Rattle.server.specs.View.{out_of, state}
use Rattle.server.specs.declared.turn.Core.{Core}
use Rattle.server.specs.declared.turn.TurnFault.{TurnFault}
use Rattle.server.specs.declared.turn.TurnFault.TheVariants as turn_faults
use Rattle.server.specs.declared.turn.TurnOut.{TurnOut}
use Rattle.front.specs.Asking.{EndsOne}
use Rattle.driver_sockets.specs.Cursors.{first_to_end}
use Rattle.front.specs.Fronting.{HandsOut, IsFrontSound}
use Rattle.driver_sockets.specs.Lending.{loan_at, borrower}
use Rattle.driver_sockets.specs.Replying.{Becomes, IsClosed, TakesFrame}
use Rattle.driver_sockets.specs.Serving.{OthersStay}
use Rattle.front.specs.Turning.{AsksInTurn, Desk, desk}
use Rattle.front.specs.Unread.{AreAtRest}
use Rattle.front.specs.declared.front.Front.{Front}
use Rattle.driver_sockets.specs.declared.lending.Loan.{Loan}
use Rattle.driver_sockets.specs.declared.socket.Socket.{Socket}

-- ---- cursors are ended

-- The first cursor whose socket has ended and whose owner is at rest is ended, if there is one.
pub record EndsFirst (old new : Desk) : Type 0 where
  pub ends : EndsOne (first_to_end old.loans old.cursors) old.loans new.loans old.server new.server
  pub cursors : new.cursors ≡ old.cursors
  pub next_id : new.next_id ≡ old.next_id

-- This is done so many times.
abbrev pub EndsEach : ℕ → Desk → Desk → Type 0
EndsEach zero old new = new ≡ old
EndsEach (suc n) old new = (between : Desk) × EndsEach n old between × EndsFirst between new

-- It is done up to 16 times, and the rest is as it was.
pub record EndsSome {C D : Type 0} (old new : Front C D) : Type 0 where
  pub times : ℕ
  pub most : times ≤ 16
  pub each : EndsEach times (desk old) (desk new)
  pub rest : new ≡ record old { core = new.core; lending = new.lending }

-- ---- what the server replies is taken

-- Which connections are lent, the sockets, and what came to the server.
pub record Floor : Type 0 where
  pub loans : List (Option Loan)
  pub sockets : List Socket
  pub server : ServerState

abbrev pub floor : {C D : Type 0} → Front C D → Floor
floor front = record {
  loans = front.lending.loans;
  sockets = front.sockets.items;
  server = state front.core;
}

-- The message that a connection was lent to goes on with this frame, or, where memory runs out for
-- it, its socket is to be closed, and the connection may begin anew. The connection is at rest, and
-- no other socket changes.
pub record TakesOne (id : ℕ) (frame : List ℕ) (old new : Floor) : Type 0 where
  pub rest : new.loans ≡ slice_set old.loans id None
  pub others : OthersStay old.sockets (borrower (loan_at old.loans id)) new.sockets
  pub takes : (TakesFrame frame old.sockets (borrower (loan_at old.loans id)) new.sockets
      × (new.server ≡ old.server))
      ⊎ (Becomes old.sockets (borrower (loan_at old.loans id)) IsClosed new.sockets
      × ((new.server ≡ old.server) ⊎ (new.server ≡ ended old.server id)))

-- These frames are taken, one after the other.
abbrev pub TakesEach : List (ℕ × List ℕ) → Floor → Floor → Type 0
TakesEach [] old new = new ≡ old
TakesEach (r ∷ rs) old new =
    (between : Floor) × TakesOne r.0 r.1 old between × TakesEach rs between new

-- Each reply of the server's turn is taken, and each connection is at rest; the server closed none.
-- Or its turn answered no message, and nothing is taken.
abbrev pub TakesAll : Result TurnOut TurnFault → Floor → Floor → Type 0
TakesAll (Ok out) old new =
    ((out_of out).closed ≡ []) × TakesEach (out_of out).replies old new × AreAtRest new.loans
TakesAll (Err fault) old new = new ≡ old

-- What isn't changed where replies are taken is as it was.
abbrev pub OnlyTakes : {C D : Type 0} → Front C D → Front C D → Type 0
OnlyTakes old new = new ≡ record old {
  core = new.core;
  sockets = new.sockets;
  lending = new.lending;
  cursors = new.cursors;
}

-- The server makes a turn, in which it doesn't stop, and what it replies is taken.
pub record MakesTurn {C D : Type 0} (history : D → History) (old new : Front C D) : Type 0 where
  pub result : Result TurnOut TurnFault
  pub goes_on : result ≢ Err turn_faults.Stopped
  pub after : Core D
  pub turns : TakesTurn history old.core result after
  pub takes : TakesAll result (record (floor old) { server = state after }) (floor new)
  pub rest : OnlyTakes old new

-- ---- the whole

pub record IsRound {C D : Type 0} (history : D → History) (old : Front C D)
    (replies : List (ℕ × List ℕ)) (closed : List ℕ) (new : Front C D) : Type 0 where
  pub ended : Front C D
  pub ends : EndsSome old ended
  pub asked : Front C D
  pub asks : AsksInTurn ended.sockets.items asked.sockets.items ended.first asked.first
      (desk ended) (desk asked)
  pub turned : Front C D
  pub turns : MakesTurn history asked turned
  pub hands_out : HandsOut turned.sockets.items replies closed new.sockets.items
  -- until the server's turn the front is sound behind each part, and asking doesn't stop the server
  pub sound : IsFrontSound history ended × IsFrontSound history asked
  pub running : is_stopped asked.core ≡ is_stopped ended.core
  pub rest : new ≡ record turned { sockets = new.sockets }
