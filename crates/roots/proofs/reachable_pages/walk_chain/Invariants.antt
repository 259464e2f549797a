use Rattle.std.proofs.Common.{◌≡◌, ℕ, List, length}
use Rattle.page.specs.History.{KeepsWord}
use Rattle.page.specs.Crash.{HasRead}
use Rattle.tree_model.specs.Tree.{HasLinks, next_of}
use Rattle.roots.specs.Walk.{IsMarked, pages_in, pages_so_far}
use Rattle.roots.proofs.FoundLemmas.{ChainSoFar}
use Rattle.roots.proofs.WalkLemmas.{ChainRest}
use Rattle.roots.proofs.reachable_pages.walk_chain.Given as goal

abbrev pub invariant-loop-left : goal.invariant-loop-left
invariant-loop-left g l =
    let start = g.D.Disk.history l.initial.disk in
    let h = g.D.Disk.history l.disk in
    record {
      only : HasRead start h;
      marks : (limit : ℕ) → IsMarked limit l.initial.reached → IsMarked limit l.reached;
      so_far : KeepsWord h → (links value : List ℕ) → HasLinks (pages_in start l.root) links value → next_of links ≡ l.fn.first → length value ≡ l.fn.len
          → ChainRest (pages_in start l.root) links l.left l.page (pages_so_far l.initial.reached) (pages_so_far l.reached);
      found : KeepsWord h → ChainSoFar (pages_in start l.root) l.fn.first l.fn.len l.left l.page (pages_so_far l.initial.reached) (pages_so_far l.reached);
    }

abbrev pub decreases-loop-left : goal.decreases-loop-left
decreases-loop-left g l = l.left
