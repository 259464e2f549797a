use Rattle.std.proofs.Common.{◌≡◌, ◌++◌, ℕ, zero, List, map, take}
use Rattle.page.specs.History.{KeepsWord}
use Rattle.page.specs.Crash.{HasRead}
use Rattle.std.specs.Option.{option_map}
use Rattle.tree_model.specs.Keys.{Each, IsBetween, Pair}
use Rattle.tree_model.specs.Tree.{Shows, item_of, pages_of, pair_keys}
use Rattle.roots.specs.Found.{HasFoundPairs}
use Rattle.roots.specs.Walk.{CanReach, IsMarked, pages_in, pages_so_far}
use Rattle.roots.proofs.reachable_pages.walk_leaf.Given as goal

abbrev pub invariant-loop-i : goal.invariant-loop-i
invariant-loop-i g l =
    let start = g.D.Disk.history l.initial.disk in
    let h = g.D.Disk.history l.disk in
    record {
      only : HasRead start h;
      marks : (limit : ℕ) → IsMarked limit l.initial.reached → IsMarked limit l.reached;
      so_far : KeepsWord h → (pairs : List Pair) → l.leaf ≡ map item_of pairs → Shows (pages_in start l.root) zero pairs
          → Each (IsBetween l.low (option_map (λ b. b.now) l.high)) (pair_keys pairs) → CanReach l.root.pages l.initial.reached (pages_of zero pairs)
          → pages_so_far l.reached ≡ pages_so_far l.initial.reached ++ pages_of zero (take l.i pairs);
      found : KeepsWord h
          → HasFoundPairs (pages_in start l.root) l.low (option_map (λ b. b.now) l.high) (take l.i l.leaf) (pages_so_far l.initial.reached)
          (pages_so_far l.reached);
    }
