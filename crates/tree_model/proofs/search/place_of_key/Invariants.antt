use Rattle.std.proofs.Common.{◌≡◌, ℕ, ◌+◌, ◌-◌, ◌<◌, ◌≤◌, length, get_or}
use Rattle.page.specs.Content.{Item}
use Rattle.tree_model.specs.Keys.{IsUnder, IsNotUnder}
use Rattle.tree_model.proofs.search.place_of_key.Given as goal

abbrev pub invariant-loop-low : goal.invariant-loop-low
invariant-loop-low l = record {
  order : l.low ≤ l.high;
  within : l.high ≤ length l.leaf;
  below : (k : ℕ) (d : Item) → k + 1 ≡ l.low → IsUnder (get_or l.leaf k d).key l.key;
  above : (d : Item) → l.high < length l.leaf → IsNotUnder (get_or l.leaf l.high d).key l.key;
}

abbrev pub decreases-loop-low : goal.decreases-loop-low
decreases-loop-low l = l.high - l.low
