-- What writing at the end of bytes does.
use Rattle.std.specs.Prelude.{◌≡◌, ◌<◌, ◌≤◌, ℕ, ◌+◌, ◌-◌, List, ◌++◌, length, take, drop, Result}
use Rattle.std.specs.Prelude.{Ok, Err}
use Rattle.std.specs.Int.{w32, to_le_bytes}
use Rattle.bson.specs.Limits.{message_limit}
use Rattle.bson.specs.declared.fault.EncodeFault.{EncodeFault}
use Rattle.bson.specs.declared.fault.EncodeFault.TheVariants.{TooLarge, Memory}

-- the text was put at the end, or is too large, or memory ran out
abbrev pub Puts : List ℕ → List ℕ → List ℕ → Result (Unit {0}) EncodeFault → Type 0
Puts text old new (Ok _) = (new ≡ old ++ text) × (length text ≤ message_limit)
Puts text old new (Err TooLarge) = message_limit < length text
Puts text old new (Err Memory) = Unit {0}

-- what stood before stands at the front
abbrev pub IsFront : List ℕ → List ℕ → Type 0
IsFront old new = take (length old) new ≡ old

-- the length of what stands from a place on was put into the four bytes there
abbrev pub Fills : ℕ → List ℕ → List ℕ → Result (Unit {0}) EncodeFault → Type 0
Fills start old new (Ok _) =
    (new ≡ take start old ++ (to_le_bytes w32 (length old - start) ++ drop (start + 4) old))
    × (length old - start ≤ message_limit)
Fills start old new (Err TooLarge) = message_limit < length old - start
Fills start old new (Err Memory) = Unit {0}
