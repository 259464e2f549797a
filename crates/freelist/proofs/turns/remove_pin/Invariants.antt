use Rattle.std.proofs.Common.{◌≡◌, ◌<◌, ℕ}
use Rattle.std.specs.Prelude.{◌≢◌, get_or}
use Rattle.freelist.proofs.turns.remove_pin.Given as goal

abbrev pub invariant-pins : goal.invariant-pins
invariant-pins l = record { same : l.pins.items ≡ l.fn.pins.items; before : (k : ℕ) → k < l.at → get_or l.pins.items k 0 ≢ l.version }
