use Rattle.std.proofs.Common.{◌≡◌, ◌-◌, ◌+◌, ◌<◌, ◌++◌, ℕ, suc, map, take}
use Rattle.std.specs.Option.{option_map}
use Rattle.page.specs.History.{KeepsWord}
use Rattle.page.specs.Crash.{HasRead}
use Rattle.tree_model.specs.Calls.{IsPart}
use Rattle.tree_model.specs.Tree.{Body, pivot_of, pages_of}
use Rattle.roots.specs.Found.{HasFoundFan}
use Rattle.roots.specs.Walk.{CanReach, IsMarked, pages_in, pages_so_far}
use Rattle.roots.proofs.reachable_pages.+walk_below.Given as goal

abbrev pub decreases-walk_below : goal.decreases-walk_below
decreases-walk_below g l = 31 - l.level

abbrev pub invariant-loop-i : goal.invariant-loop-i
invariant-loop-i g l =
    let start = g.D.Disk.history l.initial.disk in
    let h = g.D.Disk.history l.disk in
    let high = option_map (λ b. b.now) l.high in
    record {
      only : HasRead start h;
      marks : (limit : ℕ) → IsMarked limit l.initial.reached → IsMarked limit l.reached;
      deep : l.depth + l.level < 31;
      so_far : KeepsWord h → (d : ℕ) (subtrees : Body (suc d)) → l.branch ≡ map pivot_of subtrees
          → IsPart (pages_in start l.root) l.page l.level (suc d) l.low high subtrees → CanReach l.root.pages l.initial.reached (pages_of (suc d) subtrees)
          → (0 < l.i → l.depth ≡ d) × (pages_so_far l.reached ≡ pages_so_far l.initial.reached ++ pages_of (suc d) (take l.i subtrees));
      found : KeepsWord h → HasFoundFan (pages_in start l.root) l.depth l.low high l.branch l.i (pages_so_far l.initial.reached) (pages_so_far l.reached);
    }
