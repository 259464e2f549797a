use Rattle.std.proofs.Common.{◌*◌, ◌+◌, ◌<◌, length, drop}
use Rattle.tree_model.specs.Store.{Grows, KeepsWord}
use Rattle.tree_model.specs.Calls.{IsChained}
use Rattle.btree.proofs.chain.write_chain.Given as goal

abbrev pub invariant-loop-left : goal.invariant-loop-left
invariant-loop-left g l = record {
  grows : Grows (g.P.Pages.store l.initial.pages) (g.P.Pages.store l.pages);
  room : 4076 * l.left < length l.value + 4076;
  written : KeepsWord (g.P.Pages.store l.pages) → IsChained (g.P.Pages.store l.initial.pages) (g.P.Pages.store l.pages) (drop (4076 * l.left) l.value) l.next;
}

abbrev pub decreases-loop-left : goal.decreases-loop-left
decreases-loop-left g l = l.left
