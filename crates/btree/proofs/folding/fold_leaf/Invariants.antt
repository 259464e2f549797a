use Rattle.std.proofs.Common.{◌≡◌, ◌++◌, ◌-◌, ◌≤◌, zero, List, map, take}
use Rattle.tree_model.specs.Keys.{Pair, Entry, Rises, entry_of}
use Rattle.tree_model.specs.Store.{Grows, IsSame, KeepsWord}
use Rattle.tree_model.specs.Tree.{Shows, item_of, pair_keys}
use Rattle.btree.specs.Fold.{HasTaken, between}
use Rattle.btree.proofs.folding.fold_leaf.Given as goal

abbrev pub invariant-cells : goal.invariant-cells
invariant-cells g l = record {
  behind : l.initial.i ≤ l.i;
  grows : Grows (g.P.Pages.store l.initial.pages) (g.P.Pages.store l.pages);
  same : KeepsWord (g.P.Pages.store l.pages) → IsSame (g.P.Pages.store l.initial.pages) (g.P.Pages.store l.pages);
  takes : (g.P.Pages.store l.pages).failed_allocations ≡ (g.P.Pages.store l.initial.pages).failed_allocations;
  made : (start : g.row.F.Denot) (all : List Entry) (pairs : List Pair) → l.leaf ≡ map item_of pairs → Rises (pair_keys pairs)
      → Shows (g.P.Pages.store l.initial.pages) zero pairs → g.F.Fold.makes start all l.initial.fold
      → KeepsWord (g.P.Pages.store l.pages) → g.F.Fold.makes start (all ++ between l.bounds (map entry_of (take l.i pairs))) l.fold;
  lent : (start : g.row.F.Denot) → HasTaken g.F.Fold.makes start l.initial.fold → HasTaken g.F.Fold.makes start l.fold;
}

abbrev pub decreases-cells : goal.decreases-cells
decreases-cells g l = l.end - l.i
