-- What holds of every stream, whatever its bytes and wherever it was cut.
use Rattle.std.specs.Prelude.{◌≡◌, ℕ, List, ◌++◌, Ok, Err, Option, Some}
use Rattle.op_msg.specs.Frame.{Frame, front}
use Rattle.op_msg.specs.Stream.{Begins, Splits}
use Rattle.op_msg.specs.declared.fault.FrameFault.{FrameFault}

-- What stands at the front stays there, whatever follows.
abbrev pub StaysInFront : Type 0
StaysInFront = (bytes more : List ℕ) →
    ((frame : Frame) (rest : List ℕ) → front bytes ≡ Ok (Some (frame, rest))
    → front (bytes ++ more) ≡ Ok (Some (frame, rest ++ more)))
    × ((fault : FrameFault) → front bytes ≡ Err fault → front (bytes ++ more) ≡ Err fault)

-- A stream has one reading.
abbrev pub SplitsOnce : Type 0
SplitsOnce =
    (bytes : List ℕ) (frames others : List Frame) (fault other : Option FrameFault)
    (rest left : List ℕ) →
    Splits bytes frames fault rest → Splits bytes others other left
    → (frames ≡ others) × (fault ≡ other) × (rest ≡ left)

-- The messages of two pieces, one after the other, are those of the whole, wherever it was cut.
abbrev pub GoesOn : Type 0
GoesOn = (a b : List ℕ) (frames later : List Frame) (fault : Option FrameFault)
    (rest left : List ℕ) →
    Begins a frames rest → Splits (rest ++ b) later fault left
    → Splits (a ++ b) (frames ++ later) fault left
