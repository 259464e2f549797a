-- Which connections of a server are lent, and what for. A connection without a loan is at rest.
use Rattle.std.specs.Prelude.{◌≡◌, ℕ, zero, suc, Bool, false, ◌==◌, nat_lt, if◌then◌else◌, is_none}
use Rattle.std.specs.Prelude.{◌⊎◌, List, slice_index_or, Option, Some, None}
use Rattle.driver_sockets.specs.declared.lending.Loan.{Loan}

-- what a connection is lent for
abbrev pub loan_at : List (Option Loan) → ℕ → Option Loan
loan_at loans id = slice_index_or loans id None

-- the socket that it is lent to
abbrev pub borrower : Option Loan → Option ℕ
borrower None = None
borrower (Some loan) = loan.socket

abbrev pub is_at_rest : List (Option Loan) → ℕ → Bool
is_at_rest loans id = is_none (loan_at loans id)

-- ---- the connection at rest that has the fewest cursors, by these counts; of several the first

abbrev pub count_at : List ℕ → ℕ → ℕ
count_at counts id = slice_index_or counts id 0

abbrev pub fewer : List ℕ → ℕ → ℕ → ℕ
fewer counts other id = if nat_lt (count_at counts id) (count_at counts other) then id else other

-- a connection that has none, so that no other has fewer
abbrev pub has_none : List ℕ → Option ℕ → Bool
has_none counts None = false
has_none counts (Some id) = count_at counts id == 0

abbrev pub with_one : List ℕ → Option ℕ → ℕ → Option ℕ
with_one counts None id = Some id
with_one counts (Some other) id = Some (fewer counts other id)

abbrev pub better : List (Option Loan) → List ℕ → Option ℕ → ℕ → Option ℕ
better loans counts least id = if is_at_rest loans id then with_one counts least id else least

-- among so many of the first
unfoldable pub least_used : List (Option Loan) → List ℕ → ℕ → Option ℕ
least_used loans counts zero = None
least_used loans counts (suc n) = better loans counts (least_used loans counts n) n

-- ---- what becomes of loans

-- whom a connection is lent to, once a socket has ended
abbrev pub left_borrower : ℕ → Option ℕ → Option ℕ
left_borrower socket None = None
left_borrower socket (Some other) = if other == socket then None else Some other

abbrev pub orphaned : ℕ → Loan → Loan
orphaned socket loan = record loan { socket = left_borrower socket loan.socket }

abbrev pub after_end : ℕ → Option Loan → Option Loan
after_end socket None = None
after_end socket (Some loan) = Some (orphaned socket loan)

abbrev pub IsLoanOf : Option ℕ → Option Loan → Type 0
IsLoanOf socket None = ⊥
IsLoanOf socket (Some loan) = loan.socket ≡ socket

-- Each connection's loan is as it was; or the connection was at rest, and is lent to this socket.
abbrev pub Lends : Option ℕ → List (Option Loan) → List (Option Loan) → Type 0
Lends socket old new = (id : ℕ)
    → (loan_at new id ≡ loan_at old id)
    ⊎ ((loan_at old id ≡ None) × IsLoanOf socket (loan_at new id))
