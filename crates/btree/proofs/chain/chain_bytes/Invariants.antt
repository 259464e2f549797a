use Rattle.std.proofs.Common.{◌≡◌, ℕ, List, length}
use Rattle.tree_model.specs.Store.{Grows, IsSame, KeepsWord}
use Rattle.tree_model.specs.Tree.{HasLinks, next_of}
use Rattle.btree.proofs.ChainLemmas.{IsRead}
use Rattle.btree.proofs.chain.chain_bytes.Given as goal

abbrev pub invariant-loop-left : goal.invariant-loop-left
invariant-loop-left g l = record {
  grows : Grows (g.P.Pages.store l.initial.pages) (g.P.Pages.store l.pages);
  same : KeepsWord (g.P.Pages.store l.pages) → IsSame (g.P.Pages.store l.initial.pages) (g.P.Pages.store l.pages);
  takes : (g.P.Pages.store l.pages).failed_allocations ≡ (g.P.Pages.store l.initial.pages).failed_allocations;
  chained : (links value : List ℕ) → HasLinks (g.P.Pages.store l.initial.pages) links value → next_of links ≡ l.fn.first → length value ≡ l.fn.len
      → KeepsWord (g.P.Pages.store l.pages)
      → IsRead (g.P.Pages.store l.pages) value l.bytes.items l.left l.page;
}

abbrev pub decreases-loop-left : goal.decreases-loop-left
decreases-loop-left g l = l.left
