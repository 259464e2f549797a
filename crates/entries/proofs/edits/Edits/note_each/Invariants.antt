use Rattle.tree_model.specs.Keys.{Each}
use Rattle.entries.specs.EditList.{IsShortEdit, edits_in}
use Rattle.entries.specs.Indexed.{NotesUpTo}
use Rattle.entries.proofs.edits.Edits.note_each.Given as goal

abbrev pub invariant-edits : goal.invariant-edits
invariant-edits l = record {
  can : goal.iterator-edits.can_next l.edit-iterator;
  finite : goal.iterator-edits.is_finite l.edit-iterator;
  noted : NotesUpTo l.initial.self (edits_in l.initial.edit-iterator) (edits_in l.edit-iterator) l.self;
  short : Each IsShortEdit (edits_in l.edit-iterator);
}
