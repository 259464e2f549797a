-- That loans and sockets are tied: whoever a connection is lent to is there and waits for the
-- reply, and no socket has two connections.
use Rattle.std.specs.Prelude.{◌≡◌, ◌<◌, ◌⊎◌, ℕ, Bool, true, false, List, length, slice_set}
use Rattle.std.specs.Prelude.{slice_index_or, Option, Some, None}
use Rattle.driver_sockets.specs.Lending.{loan_at, borrower}
use Rattle.driver_sockets.specs.declared.job.Job.{Job}
use Rattle.driver_sockets.specs.declared.job.Stage.{Stage}
use Rattle.driver_sockets.specs.declared.job.Stage.TheVariants as stages
use Rattle.driver_sockets.specs.declared.lending.Loan.{Loan}
use Rattle.driver_sockets.specs.declared.socket.Socket.{Socket}

abbrev pub was_asked : Stage → Bool
was_asked (stages.Asks question) = false
was_asked stages.Waits = true

-- the server was asked for the message that is worked on
abbrev pub is_asked : Option Job → Bool
is_asked None = false
is_asked (Some job) = was_asked job.stage

pub record AreTied (loans : List (Option Loan)) (sockets : List Socket) : Type 0 where
  pub there : (id n : ℕ) → borrower (loan_at loans id) ≡ Some n → n < length sockets
  pub asked : (id n : ℕ) (any : Socket) → borrower (loan_at loans id) ≡ Some n
      → is_asked (slice_index_or sockets n any).job ≡ true
  pub once : (id other n : ℕ) → borrower (loan_at loans id) ≡ Some n
      → borrower (loan_at loans other) ≡ Some n → id ≡ other

-- A connection that was at rest is lent to this socket, or to none.
pub record IsLent (socket : Option ℕ) (old new : List (Option Loan)) : Type 0 where
  pub id : ℕ
  pub loan : Loan
  pub of : loan.socket ≡ socket
  pub rest : loan_at old id ≡ None
  pub lent : new ≡ slice_set old id (Some loan)

-- Nothing is lent, and a socket that waits for a reply goes on waiting; or a connection is lent to
-- the socket, which begins to wait.
abbrev pub Asks : ℕ → List (Option Loan) → List (Option Loan) → Socket → Socket → Type 0
Asks number old new before after =
    ((new ≡ old) × (is_asked before.job ≡ true → is_asked after.job ≡ true))
    ⊎ (IsLent (Some number) old new
    × (is_asked before.job ≡ false) × (is_asked after.job ≡ true))

-- Nothing is lent, or a connection to no socket.
abbrev pub LendsToNone : List (Option Loan) → List (Option Loan) → Type 0
LendsToNone old new = (new ≡ old) ⊎ IsLent None old new
