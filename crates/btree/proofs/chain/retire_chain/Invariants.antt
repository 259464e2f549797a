use Rattle.std.proofs.Common.{◌≡◌, ℕ, List, length}
use Rattle.tree_model.specs.Store.{Grows, KeepsWord}
use Rattle.tree_model.specs.Tree.{HasLinks, next_of}
use Rattle.btree.proofs.ChainLemmas.{IsRetiring}
use Rattle.btree.proofs.chain.retire_chain.Given as goal

abbrev pub invariant-loop-left : goal.invariant-loop-left
invariant-loop-left g l = record {
  grows : Grows (g.P.Pages.store l.initial.pages) (g.P.Pages.store l.pages);
  few : KeepsWord (g.P.Pages.store l.pages) → (g.P.Pages.store l.pages).made ≡ (g.P.Pages.store l.initial.pages).made;
  chained : (links value : List ℕ) → HasLinks (g.P.Pages.store l.initial.pages) links value → next_of links ≡ l.fn.first → length value ≡ l.fn.len
      → KeepsWord (g.P.Pages.store l.pages)
      → IsRetiring (g.P.Pages.store l.initial.pages) (g.P.Pages.store l.pages) links l.left l.page;
}

abbrev pub decreases-loop-left : goal.decreases-loop-left
decreases-loop-left g l = l.left
