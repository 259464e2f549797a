-- What a map of written sectors holds.
use Rattle.std.specs.Prelude.{ℕ, List, replicate, unwrap_or}
use Rattle.std.specs.Ordering.{nat_cmp}
use Rattle.std.specs.BTreeMap.{BTreeMap, get}

-- a sector that was never written is zeros
abbrev pub bytes_in : BTreeMap ℕ (List ℕ) → ℕ → List ℕ
bytes_in latest k = unwrap_or (get nat_cmp latest k) (replicate 512 0)
