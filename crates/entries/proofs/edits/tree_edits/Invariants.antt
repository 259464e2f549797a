use Rattle.std.proofs.Common.{◌≡◌, ◌++◌, map}
use Rattle.tree_model.specs.EditView.{edit_in}
use Rattle.entries.specs.EditList.{edits_in}
use Rattle.entries.proofs.edits.tree_edits.Given as goal

abbrev pub invariant-edits : goal.invariant-edits
invariant-edits l = record {
  can : goal.iterator-edits.can_next l.edit-iterator;
  finite : goal.iterator-edits.is_finite l.edit-iterator;
  same : map edit_in l.all.items ++ edits_in l.edit-iterator ≡ edits_in l.fn.noted.entries;
}
