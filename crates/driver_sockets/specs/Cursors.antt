-- The cursors that drivers have open.
use Rattle.std.specs.Prelude.{ℕ, ℤ, ◌+◌, ◌-◌, ◌^◌, min, Bool, ◌&&◌, is_none, if◌then◌else◌, List}
use Rattle.std.specs.Prelude.{[], ◌∷◌, replicate, slice_set, Option, Some, None}
use Rattle.std.specs.Ordering.{int_eq}
use Rattle.driver_sockets.specs.Lending.{count_at, is_at_rest}
use Rattle.driver_sockets.specs.declared.lending.Loan.{Loan}
use Rattle.driver_sockets.specs.declared.open_cursors.OpenCursor.{OpenCursor}

-- the connection that owns the cursor of a number
abbrev pub owner_in : ℤ → List OpenCursor → Option ℕ
owner_in id [] = None
owner_in id (c ∷ cs) = if int_eq c.id id then Some c.owner else owner_in id cs

-- ---- how many cursors each connection owns

abbrev pub counted : List ℕ → ℕ → List ℕ
counted counts owner = slice_set counts owner (min (count_at counts owner + 1) (2 ^ 64 - 1))

abbrev pub counts_from : List ℕ → List OpenCursor → List ℕ
counts_from counts [] = counts
counts_from counts (c ∷ cs) = counts_from (counted counts c.owner) cs

abbrev pub counts_of : List OpenCursor → List ℕ
counts_of cursors = counts_from (replicate 64 0) cursors

-- ---- the cursor that is ended next: the first whose socket has ended and whose owner is at rest

abbrev pub is_to_end : List (Option Loan) → OpenCursor → Bool
is_to_end loans cursor = is_none cursor.opener && is_at_rest loans cursor.owner

abbrev pub first_to_end : List (Option Loan) → List OpenCursor → Option OpenCursor
first_to_end loans [] = None
first_to_end loans (c ∷ cs) = if is_to_end loans c then Some c else first_to_end loans cs
