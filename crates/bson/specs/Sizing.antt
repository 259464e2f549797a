-- Lengths of spellings as the code counts them.
use Rattle.std.specs.Prelude.{ℕ, min, ◌-◌, ◌^◌}

-- a length as a `usize` counts it, which stops at the greatest
abbrev pub capped_len : ℕ → ℕ
capped_len n = min n (2 ^ 64 - 1)
