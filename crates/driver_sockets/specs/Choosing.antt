-- Which connection a question is asked on, and what it is lent for.
use Rattle.std.specs.Prelude.{ℕ, ℤ, if◌then◌else◌, List, Option, Some, None}
use Rattle.driver_sockets.specs.Cursors.{counts_of, owner_in}
use Rattle.driver_sockets.specs.Lending.{is_at_rest, least_used}
use Rattle.driver_sockets.specs.declared.job.Question.{Question}
use Rattle.driver_sockets.specs.declared.lending.Loan.{Loan}
use Rattle.driver_sockets.specs.declared.open_cursors.OpenCursor.{OpenCursor}

-- ---- on which connection

abbrev pub owner_of : List OpenCursor → Option ℤ → Option ℕ
owner_of cursors None = None
owner_of cursors (Some id) = owner_in id cursors

abbrev pub owner_or_least : List (Option Loan) → List OpenCursor → Option ℕ → Option ℕ
owner_or_least loans cursors (Some owner) = if is_at_rest loans owner then Some owner else None
owner_or_least loans cursors None = least_used loans (counts_of cursors) 64

-- The connection that a question is asked on now: the one that owns its cursor, if that is at rest;
-- of a question about no cursor that is known the one at rest with the fewest, if any is at rest.
abbrev pub connection_for : List (Option Loan) → List OpenCursor → Question → Option ℕ
connection_for loans cursors question =
    owner_or_least loans cursors (owner_of cursors question.cursor)

-- ---- what it is lent for

abbrev pub loan_of : ℕ → Question → Loan
loan_of number question = record { socket = Some number; cursor = question.cursor }

-- what the owner of a cursor is lent for that is ended
abbrev pub loan_to_end : OpenCursor → Loan
loan_to_end cursor = record { socket = None; cursor = Some cursor.id }
