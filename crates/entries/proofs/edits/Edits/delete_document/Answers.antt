use Rattle.std.proofs.Common.{List, ap, subst, ◌∙◌}
use Rattle.tree_model.specs.Keys.{Edit}
use Rattle.entries.specs.Indexed.{with_edits, NotesSome}
use Rattle.entry_model.specs.StateEntries.{document_entry, document_entries, removal_of, removals}
use Rattle.entries.proofs.LoopLemmas.{on_err, if_err}
use Rattle.entries.proofs.NotingLemmas.{on_ok}
use Rattle.entries.proofs.IndexedLaws.{one_each, all_short, entries_are, nothing_noted, behind_first, first_removed, deletes_from}
use Rattle.entries.proofs.edits.Edits.delete_document.Goals as goal

pub note_in_indexes-requires : goal.note_in_indexes-requires
note_in_indexes-requires c = record {
  id = c.requires.short;
  one_each = one_each c.args.indexes.now c.args.document.now c.args.keys.now c.requires.keyed;
  keys = all_short c.args.indexes.now c.args.document.now c.args.keys.now c.requires.keyed;
}

pub remove_document-requires : goal.remove_document-requires
remove_document-requires c = record { short = c.requires.short }

pub returns-in_err-remove_document-clause-err : goal.returns-in_err-remove_document-clause-err
returns-in_err-remove_document-clause-err c =
    on_err c.from_residual.result
    (nothing_noted c.args.self.now
    (removals (document_entries c.args.number c.args.indexes.now c.args.document.now)) c.remove_document.new.self c.in_err-remove_document.ensures.err)

pub returns-clause-ok : goal.returns-clause-ok
returns-clause-ok c =
    let same = entries_are c.args.number c.args.id.now c.args.indexes.now c.args.document.now c.args.keys.now c.requires.keyed c.requires.text in
    on_ok c.note_in_indexes.result (λ made. made
    ∙ (λ t. with_edits (removals (same t))
    ((first_removed c.args.number c.args.id.now c.args.document.now c.args.self.now c.remove_document.new.self c.requires.text
    c.in_ok-remove_document.ensures.ok) t))) c.note_in_indexes.ensures.ok

pub returns-clause-err : goal.returns-clause-err
returns-clause-err c =
    let same = entries_are c.args.number c.args.id.now c.args.indexes.now c.args.document.now c.args.keys.now c.requires.keyed c.requires.text in
    if_err c.note_in_indexes.result
    (λ some. behind_first
    (removal_of (document_entry c.args.number c.args.document.now)) c.args.self.now _ c.remove_document.new.self c.note_in_indexes.new.self
    (first_removed c.args.number c.args.id.now c.args.document.now c.args.self.now c.remove_document.new.self c.requires.text
    c.in_ok-remove_document.ensures.ok)
    (subst (λ (es : List Edit). NotesSome c.remove_document.new.self es c.note_in_indexes.new.self) (ap removals same) some))
    c.note_in_indexes.ensures.err

pub returns-clause-leads : goal.returns-clause-leads
returns-clause-leads c =
    on_ok c.note_in_indexes.result
    (λ made. deletes_from c.args.self.now c.note_in_indexes.new.self c.args.number c.args.indexes.now c.args.document.now c.allocator-alloc.ensures.rises
    made)
    (returns-clause-ok c)
