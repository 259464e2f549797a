use Rattle.std.proofs.Common.{◌≡◌, ◌≤◌, ◌+◌, ◌*◌, zero, List, map, take}
use Rattle.tree_model.specs.Keys.{Each, Pair, Rises, sum_of}
use Rattle.page.specs.Content.{IsItem, item_size, total}
use Rattle.tree_model.specs.Store.{Grows, KeepsWord}
use Rattle.tree_model.specs.Tree.{Shows, item_of, pair_keys}
use Rattle.btree.specs.Few.{MakesUpTo, edit_pages}
use Rattle.tree_model.specs.View.{item_in}
use Rattle.tree_model.specs.EditView.{edit_in}
use Rattle.tree_model.specs.Calls.{IsEdited}
use Rattle.btree.proofs.editing.edit_cells.Given as goal

abbrev pub invariant-loop-edit : goal.invariant-loop-edit
invariant-loop-edit g l = record {
  grows : Grows (g.P.Pages.store l.initial.pages) (g.P.Pages.store l.pages);
  small : Each IsItem (map item_in l.initial.cells.items) → Each IsItem (map item_in l.cells.items);
  few : KeepsWord (g.P.Pages.store l.pages)
      → MakesUpTo (g.P.Pages.store l.initial.pages) (g.P.Pages.store l.pages) (sum_of edit_pages (take l.edit-index (map edit_in l.edits)));
  size : total item_size (map item_in l.cells.items) ≤ total item_size (map item_in l.initial.cells.items) + 1360 * l.edit-index;
  edited : (pairs : List Pair) → map item_in l.initial.cells.items ≡ map item_of pairs → Rises (pair_keys pairs)
      → Shows (g.P.Pages.store l.initial.pages) zero pairs
      → KeepsWord (g.P.Pages.store l.pages)
      → IsEdited (g.P.Pages.store l.initial.pages) (g.P.Pages.store l.pages) (take l.edit-index (map edit_in l.edits)) pairs (map item_in l.cells.items);
}
