-- A message during which nobody else may ask: between its questions no other socket asks.
use Rattle.std.specs.Prelude.{◌≡◌, ◌<◌, ◌⊎◌, ℕ, Bool, true, false, ◌&&◌, ◌||◌, List, length}
use Rattle.std.specs.Prelude.{slice_index_or, Option, Some, None}
use Rattle.drivers.specs.Answering.{asks_alone}
use Rattle.drivers.specs.AloneLaws.{is_later}
use Rattle.driver_sockets.specs.Lending.{loan_at, borrower, Lends}
use Rattle.driver_sockets.specs.Tying.{was_asked}
use Rattle.driver_sockets.specs.declared.job.Job.{Job}
use Rattle.driver_sockets.specs.declared.lending.Loan.{Loan}
use Rattle.driver_sockets.specs.declared.socket.Socket.{Socket}

abbrev pub alone_in : Option Job → Bool
alone_in None = false
alone_in (Some job) = asks_alone job.plan.wait

-- the message that is worked on is such a one
abbrev pub is_alone : Socket → Bool
is_alone socket = alone_in socket.job

abbrev pub begun_in : Option Job → Bool
begun_in None = false
begun_in (Some job) = asks_alone job.plan.wait && (was_asked job.stage || is_later job.plan.wait)

-- and its first question was asked
abbrev pub has_begun : Socket → Bool
has_begun socket = begun_in socket.job

-- The front knows whose message has begun so.
abbrev pub StandsAlone : Option ℕ → List Socket → Type 0
StandsAlone alone sockets = (n : ℕ) (any : Socket) → n < length sockets
    → has_begun (slice_index_or sockets n any) ≡ true → alone ≡ Some n

-- What is lent is lent to this socket.
abbrev pub AreLentTo : ℕ → List (Option Loan) → Type 0
AreLentTo n loans = (id : ℕ) → (loan_at loans id ≡ None) ⊎ (borrower (loan_at loans id) ≡ Some n)

-- Of a turn, with the loans and the sockets before its questions and behind them: where a message
-- has begun, its socket alone asks; where one begins, no other socket has asked, and none waits for
-- a reply.
pub record NobodyBetween (old : List (Option Loan)) (before : List Socket)
    (new : List (Option Loan)) (after : List Socket) : Type 0 where
  pub as_many : length after ≡ length before
  pub goes_on : (n : ℕ) (any : Socket) → n < length before
      → has_begun (slice_index_or before n any) ≡ true → Lends (Some n) old new
  pub begins : (n : ℕ) (any : Socket) → n < length before
      → has_begun (slice_index_or before n any) ≡ false
      → has_begun (slice_index_or after n any) ≡ true → AreLentTo n new

-- A reply came for the message of this socket: it is one during which nobody else may ask only if
-- it was one.
abbrev pub GoesOnAlone : List Socket → Option ℕ → List Socket → Type 0
GoesOnAlone old socket new = (n : ℕ) (any : Socket) → socket ≡ Some n → n < length old
    → has_begun (slice_index_or new n any) ≡ true → is_alone (slice_index_or old n any) ≡ true

-- Nothing has changed, and no message has begun during which nobody else may ask.
pub record IsNobodyAlone (before : List Socket) (alone : Option ℕ)
    (after : List Socket) : Type 0 where
  pub same : after ≡ before
  pub free : alone ≡ None
