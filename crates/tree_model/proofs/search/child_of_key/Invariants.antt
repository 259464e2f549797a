use Rattle.std.proofs.Common.{◌+◌, ◌-◌, ◌<◌, ◌≤◌, length, get_or}
use Rattle.page.specs.Content.{Pivot}
use Rattle.tree_model.specs.Keys.{IsUnder, IsNotUnder}
use Rattle.tree_model.proofs.search.child_of_key.Given as goal

abbrev pub invariant-loop-low : goal.invariant-loop-low
invariant-loop-low l = record {
  order : l.low ≤ l.high;
  within : l.high < length l.branch;
  below : (d : Pivot) → 0 < l.low → IsNotUnder l.key (get_or l.branch l.low d).key;
  above : (d : Pivot) → l.high + 1 < length l.branch → IsUnder l.key (get_or l.branch (l.high + 1) d).key;
}

abbrev pub decreases-loop-low : goal.decreases-loop-low
decreases-loop-low l = l.high - l.low
