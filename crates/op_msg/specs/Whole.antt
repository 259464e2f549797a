-- Bytes that are whole messages, one behind the other, and bytes that aren't one yet.
use Rattle.std.specs.Prelude.{◌≡◌, ◌⊎◌, ℕ, ◌≤◌, List, [], ◌++◌, length, take, Option, Some, None}
use Rattle.std.specs.Prelude.{Ok, Err}
use Rattle.op_msg.specs.Frame.{Frame, front}
use Rattle.op_msg.specs.Stream.{Begins}
use Rattle.op_msg.specs.declared.fault.FrameFault.{FrameFault}

-- messages to the end of the bytes, or to a fault
abbrev pub AreWhole : List ℕ → Type 0
AreWhole bytes = (frames : List Frame) × (rest : List ℕ) × Begins bytes frames rest
    × ((rest ≡ []) ⊎ ((fault : FrameFault) × (front rest ≡ Err fault)))

-- neither a whole message nor a fault stands at the front
abbrev pub IsBegun : List ℕ → Type 0
IsBegun bytes = front bytes ≡ Ok None

-- The message at the front ends behind so many bytes, or all of them go on with its fault; or it
-- isn't whole.
abbrev pub EndsAt : Option ℕ → List ℕ → Type 0
EndsAt None bytes = IsBegun bytes
EndsAt (Some n) bytes = (4 ≤ n) × (n ≤ length bytes) × AreWhole (take n bytes)

-- The message that these bytes begin ends behind so many bytes of a chunk, or isn't whole with it.
abbrev pub EndsIn : List ℕ → Option ℕ → List ℕ → Type 0
EndsIn begun None chunk = IsBegun (begun ++ chunk)
EndsIn begun (Some n) chunk = (n ≤ length chunk) × AreWhole (begun ++ take n chunk)

-- The bytes of a message that was begun and a chunk are whole messages, which stand behind those
-- before, and what they leave of another one.
abbrev pub Joins : List ℕ → List ℕ → List ℕ → List ℕ → List ℕ → Type 0
Joins before begun chunk after left = (joined : List ℕ) × AreWhole joined
    × (after ≡ before ++ joined) × (joined ++ left ≡ begun ++ chunk) × IsBegun left
