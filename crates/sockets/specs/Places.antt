-- What stands at the places of the connections' numbers.
use Rattle.std.specs.Prelude.{◌≡◌, ◌≢◌, ◌++◌, ℕ, Bool, true, false, List, length, get_or, Option}
use Rattle.std.specs.Prelude.{Some, None}
use Rattle.sockets.specs.declared.client.Client.{Client}
use Rattle.sockets.specs.Stream.{Sends}

-- the connection there has ended, or is to end
abbrev pub is_over_in : {T : Type 0} → Option (Client T) → Bool
is_over_in None = false
is_over_in (Some client) = client.is_over

-- A reply to the connection at a place: of what waits for it and of the reply its stream took the
-- first bytes, and the others wait.
abbrev pub IsGivenAt : {T : Type 0} → (T → Option (List ℕ)) → Option (Client T) → List ℕ
    → Option (Client T) → Type 0
IsGivenAt contents None frame after = after ≡ None
IsGivenAt contents (Some client) frame None = ⊥
IsGivenAt contents (Some client) frame (Some later) =
    later.is_over ≡ false
    → Sends (client.outbox ++ frame) later.outbox (contents client.stream) (contents later.stream)

abbrev pub closed_at : {T : Type 0} → Option (Client T) → Option (Client T)
closed_at None = None
closed_at (Some client) = Some (record client { is_over = true })

-- the places but this one are as they were
pub record OthersStay {T : Type 0} (before : List (Option (Client T))) (i : ℕ)
    (after : List (Option (Client T))) : Type 0 where
  pub length : length after ≡ length before
  pub others : (k : ℕ) → k ≢ i → get_or after k None ≡ get_or before k None

-- A reply goes to the connection of this number and to no other.
pub record IsGiven {T : Type 0} (contents : T → Option (List ℕ)) (before : List (Option (Client T)))
    (i : ℕ) (frame : List ℕ) (after : List (Option (Client T))) : Type 0 where
  pub others : OthersStay before i after
  pub own : IsGivenAt contents (get_or before i None) frame (get_or after i None)

-- The connection of this number is to end, and no other.
pub record IsClosed {T : Type 0} (before : List (Option (Client T))) (i : ℕ)
    (after : List (Option (Client T))) : Type 0 where
  pub others : OthersStay before i after
  pub own : get_or after i None ≡ closed_at (get_or before i None)
