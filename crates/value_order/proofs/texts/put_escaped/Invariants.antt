use Rattle.std.proofs.Common.{◌≡◌, ℕ, ◌≤◌, ◌++◌, length}
use Rattle.value_order.specs.KeyText.{escaped_text}
use Rattle.value_order.proofs.texts.put_escaped.Given as goal

abbrev pub invariant-runs : goal.invariant-runs
invariant-runs l = record {
  room : length l.out.items ≤ l.limit;
  same : l.out.items ++ escaped_text l.rest ≡ l.initial.out.items ++ escaped_text l.bytes;
}

abbrev pub decreases-runs : goal.decreases-runs
decreases-runs l = length l.rest
