use Rattle.std.proofs.Common.{◌≡◌, ◌+◌, ◌≤◌, map, take}
use Rattle.page.specs.Content.{item_size, total}
use Rattle.tree_model.specs.EditView.{edit_in}
use Rattle.btree.specs.Few.{edit_room}
use Rattle.tree_model.specs.Keys.{sum_of}
use Rattle.btree.proofs.in_page.has_room.Given as goal

abbrev pub invariant-loop-edit : goal.invariant-loop-edit
invariant-loop-edit l = record {
  used : l.used ≡ total item_size l.leaf + sum_of edit_room (take l.edit-index (map edit_in l.edits));
  room : l.used ≤ 4080;
}
