-- What putting text behind bytes does, where a limit holds for all of them.
use Rattle.std.specs.Prelude.{◌≡◌, ◌<◌, ◌≤◌, ℕ, ◌+◌, ◌-◌, ◌^◌, List, ◌++◌, length, Result, Ok, Err}
use Rattle.value_order.specs.declared.texts.KeyFault.{KeyFault}
use Rattle.value_order.specs.declared.texts.KeyFault.TheVariants as faults

-- the text was put at the end, or it would pass the limit, which the greatest `usize` is none of,
-- or memory ran out
abbrev pub IsPut : ℕ → List ℕ → List ℕ → List ℕ → Result (Unit {0}) KeyFault → Type 0
IsPut limit text old new (Ok _) = (new ≡ old ++ text) × (length new ≤ limit)
IsPut limit text old new (Err faults.TooLong) =
    (limit < length old + length text) × (limit < 2 ^ 64 - 1)
IsPut limit text old new (Err faults.Memory) = Unit {0}
