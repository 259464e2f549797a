-- What a front hands out, of which sockets.
use Rattle.std.specs.Prelude.{◌≡◌, ℕ, ◌+◌, Bool, if◌then◌else◌, List, [], ◌∷◌, ◌++◌, map, slice_set}
use Rattle.std.specs.Prelude.{slice_index_or, length, max, ◌<◌, ◌≤◌, Option, Some, None, Vec}
use Rattle.page.specs.History.{History}
use Rattle.driver_sockets.specs.Alone.{StandsAlone}
use Rattle.driver_sockets.specs.Lending.{after_end}
use Rattle.driver_sockets.specs.Serving.{answered, fed, fresh, HaveGrown}
use Rattle.driver_sockets.specs.Tying.{AreTied}
use Rattle.front.specs.Unread.{IsBehind}
use Rattle.front.specs.declared.front.Front.{Front}
use Rattle.driver_sockets.specs.declared.socket.Socket.{Socket}

-- What holds of a front between two calls.
abbrev pub IsFrontSound : {C D : Type 0} → (D → History) → Front C D → Type 0
IsFrontSound history front = IsBehind history front.lending.loans front.core
    × AreTied front.lending.loans front.sockets.items
    × StandsAlone front.alone front.sockets.items

abbrev pub frame_to : {Z : Type 0} → ℕ → Option (Vec ℕ Z) → List (ℕ × List ℕ)
frame_to i None = []
frame_to i (Some frame) = (i, frame.items) ∷ []

-- the answers that are ready, each with the number of its socket, from this number on
abbrev pub answers_from : ℕ → List Socket → List (ℕ × List ℕ)
answers_from i [] = []
answers_from i (s ∷ ss) = frame_to i s.answer ++ answers_from (i + 1) ss

abbrev pub closing : ℕ → Bool → List ℕ
closing i is_over = if is_over then i ∷ [] else []

-- the sockets that are to be closed, from this number on
abbrev pub closed_from : ℕ → List Socket → List ℕ
closed_from i [] = []
closed_from i (s ∷ ss) = closing i s.is_over ++ closed_from (i + 1) ss

-- A turn hands out the answers that are ready, one of a socket at most and in rising number, and
-- closes the sockets that are to be closed.
pub record HandsOut (ready : List Socket) (replies : List (ℕ × List ℕ)) (closed : List ℕ)
    (new : List Socket) : Type 0 where
  pub answers : replies ≡ answers_from 0 ready
  pub given : new ≡ map answered ready
  pub over : closed ≡ closed_from 0 new

-- Bytes came on the socket of this number, which was there or is now: there are as many sockets as
-- there were, or as its number needs.
pub record IsFed (old : List Socket) (i : ℕ) (bytes : List ℕ) (new : List Socket) : Type 0 where
  pub there : List Socket
  pub grown : HaveGrown old there
  pub within : i < length there
  pub most : length there ≤ max (length old) (i + 1)
  pub fed : (any : Socket) → new ≡ slice_set there i (fed (slice_index_or there i any) bytes)

-- Nothing else has changed of the front.
pub record TakesBytes {C D : Type 0} (old : Front C D) (i : ℕ) (bytes : List ℕ)
    (new : Front C D) : Type 0 where
  pub fed : IsFed old.sockets.items i bytes new.sockets.items
  pub rest : new ≡ record old { sockets = new.sockets }

-- The socket of this number has ended: nothing of it is left.
abbrev pub IsEnded : List Socket → ℕ → List Socket → Type 0
IsEnded old i new = new ≡ slice_set old i fresh

-- What was lent to it is lent to none, and nothing comes to the server.
pub record Forgets {C D : Type 0} (old : Front C D) (i : ℕ) (new : Front C D) : Type 0 where
  pub ended : IsEnded old.sockets.items i new.sockets.items
  pub loans : new.lending.loans ≡ map (after_end i) old.lending.loans
  pub core : new.core ≡ old.core
