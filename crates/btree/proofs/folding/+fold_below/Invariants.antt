use Rattle.std.proofs.Common.{◌≡◌, ◌-◌, ◌++◌, ℕ, length, suc, List, map, take}
use Rattle.std.specs.Option.{option_map}
use Rattle.tree_model.specs.Keys.{Entry}
use Rattle.tree_model.specs.Store.{Grows, IsSame, KeepsWord}
use Rattle.tree_model.specs.Tree.{Body, pivot_of, entries_of}
use Rattle.tree_model.specs.Calls.{IsPart}
use Rattle.btree.specs.Fold.{HasTaken, between}
use Rattle.btree.proofs.folding.+fold_below.Given as goal

abbrev pub decreases-fold_below : goal.decreases-fold_below
decreases-fold_below g l = 31 - l.level

abbrev pub invariant-children : goal.invariant-children
invariant-children g l = record {
  grows : Grows (g.P.Pages.store l.initial.pages) (g.P.Pages.store l.pages);
  same : KeepsWord (g.P.Pages.store l.pages) → IsSame (g.P.Pages.store l.initial.pages) (g.P.Pages.store l.pages);
  takes : (g.P.Pages.store l.pages).failed_allocations ≡ (g.P.Pages.store l.initial.pages).failed_allocations;
  made : (start : g.row.F.Denot) (all : List Entry) (d : ℕ) (subtrees : Body (suc d)) → l.branch ≡ map pivot_of subtrees
      → IsPart (g.P.Pages.store l.initial.pages) l.page l.level (suc d) l.low (option_map (λ b. b.now) l.high) subtrees
      → g.F.Fold.makes start all l.initial.fold
      → KeepsWord (g.P.Pages.store l.pages) → g.F.Fold.makes start (all ++ between l.bounds (entries_of (suc d) (take l.i subtrees))) l.fold;
  lent : (start : g.row.F.Denot) → HasTaken g.F.Fold.makes start l.initial.fold → HasTaken g.F.Fold.makes start l.fold;
}

abbrev pub decreases-children : goal.decreases-children
decreases-children g l = length l.branch - l.i
