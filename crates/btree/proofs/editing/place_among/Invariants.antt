use Rattle.std.proofs.Common.{◌≡◌, ℕ, ◌+◌, ◌-◌, ◌<◌, ◌≤◌, length, map, get_or}
use Rattle.page.specs.Content.{Item}
use Rattle.tree_model.specs.Keys.{IsUnder, IsNotUnder}
use Rattle.tree_model.specs.View.{item_in}
use Rattle.btree.proofs.editing.place_among.Given as goal

abbrev pub invariant-loop-low : goal.invariant-loop-low
invariant-loop-low l = record {
  order : l.low ≤ l.high;
  within : l.high ≤ length (map item_in l.cells);
  below : (k : ℕ) (d : Item) → k + 1 ≡ l.low → IsUnder (get_or (map item_in l.cells) k d).key l.key;
  above : (d : Item) → l.high < length (map item_in l.cells) → IsNotUnder (get_or (map item_in l.cells) l.high d).key l.key;
}

abbrev pub decreases-loop-low : goal.decreases-loop-low
decreases-loop-low l = l.high - l.low
