use Rattle.std.proofs.Common.{◌≡◌, ◌≤◌, ◌+◌, zero, List, length, map, take}
use Rattle.std.specs.Option.{unwrap_or}
use Rattle.page.specs.Content.{item_size, total}
use Rattle.tree_model.specs.Calls.{IsEdited}
use Rattle.tree_model.specs.EditView.{edit_in}
use Rattle.btree.specs.Few.{MakesUpTo, edit_pages, edit_room}
use Rattle.tree_model.specs.Keys.{Pair, Rises, sum_of}
use Rattle.tree_model.specs.Store.{Grows, KeepsWord}
use Rattle.tree_model.specs.Tree.{Shows, item_of, pair_keys}
use Rattle.btree.proofs.in_page.edit_page.Given as goal

abbrev pub invariant-loop-edit : goal.invariant-loop-edit
invariant-loop-edit g l = record {
  grows : Grows (g.P.Pages.store l.initial.pages) (g.P.Pages.store l.pages);
  long : length l.leaf ≤ length (unwrap_or l.edited l.leaf) + l.edit-index;
  size : total item_size (unwrap_or l.edited l.leaf) ≤ total item_size l.leaf + sum_of edit_room (take l.edit-index (map edit_in l.edits));
  few : KeepsWord (g.P.Pages.store l.pages)
      → MakesUpTo (g.P.Pages.store l.initial.pages) (g.P.Pages.store l.pages) (sum_of edit_pages (take l.edit-index (map edit_in l.edits)));
  stands : (pairs : List Pair) → l.leaf ≡ map item_of pairs → Rises (pair_keys pairs) → Shows (g.P.Pages.store l.initial.pages) zero pairs
      → KeepsWord (g.P.Pages.store l.pages)
      → IsEdited (g.P.Pages.store l.initial.pages) (g.P.Pages.store l.pages) (take l.edit-index (map edit_in l.edits)) pairs (unwrap_or l.edited l.leaf);
}
