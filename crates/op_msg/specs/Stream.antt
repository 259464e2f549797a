-- A stream, as a whole list of bytes that knows no chunks: its messages, one after the other, and
-- then a rest that is no whole message and has no fault at its front, or a fault.
use Rattle.std.specs.Prelude.{◌≡◌, ℕ, List, [], ◌∷◌, Result, Ok, Err, Option, Some, None}
use Rattle.op_msg.specs.Frame.{Frame, front}
use Rattle.op_msg.specs.declared.fault.FrameFault.{FrameFault}

-- these messages stand at the front, one after the other, and the rest follows
abbrev pub Begins : List ℕ → List Frame → List ℕ → Type 0
Begins bytes [] rest = rest ≡ bytes
Begins bytes (frame ∷ frames) rest =
    (after : List ℕ) × (front bytes ≡ Ok (Some (frame, after))) × Begins after frames rest

-- what ends the messages: no whole message, or a fault
abbrev pub ending : Option FrameFault → Result (Option (Frame × List ℕ)) FrameFault
ending None = Ok None
ending (Some fault) = Err fault

-- The bytes are these messages and then a rest that has this fault at its front, or no fault and no
-- whole message.
pub record Splits (bytes : List ℕ) (frames : List Frame) (fault : Option FrameFault)
    (rest : List ℕ) : Type 0 where
  pub begins : Begins bytes frames rest
  pub ends : front rest ≡ ending fault
