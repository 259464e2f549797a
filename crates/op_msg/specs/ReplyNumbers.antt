-- The numbers that a server gives its replies (`requestID` of the message header): each is one more
-- than the last, and 1 comes behind the greatest int32.
use Rattle.std.specs.Prelude.{ℕ, ◌+◌, if◌then◌else◌, nat_lt}

-- the number of the next reply
abbrev pub next_number : ℕ → ℕ
next_number last = if nat_lt last 2147483647 then last + 1 else 1
