use Rattle.std.proofs.Common.{ℕ, ◌≤◌, List, length, sym, ap, subst, ◌∙◌}
use Rattle.tree_model.specs.Keys.{Edit}
use Rattle.entries.specs.Indexed.{with_edits, NotesSome}
use Rattle.entry_model.specs.StateEntries.{document_entry, document_entries, put_of, puts}
use Rattle.entries.proofs.LoopLemmas.{on_err, if_err}
use Rattle.entries.proofs.NotingLemmas.{on_ok}
use Rattle.entries.proofs.IndexedLaws.{one_each, all_short, entries_are, nothing_noted, behind_first, inserts_into}
use Rattle.entries.proofs.edits.Edits.insert_document.Goals as goal

pub note_in_indexes-requires : goal.note_in_indexes-requires
note_in_indexes-requires c = record {
  id = subst (λ (text : List ℕ). length text ≤ 500) (sym c.requires.text) c.requires.storable.short;
  one_each = one_each c.args.indexes.now c.args.document.now c.args.keys.now c.requires.keyed;
  keys = all_short c.args.indexes.now c.args.document.now c.args.keys.now c.requires.keyed;
}

pub returns-in_err-put_document-clause-err : goal.returns-in_err-put_document-clause-err
returns-in_err-put_document-clause-err c =
    on_err c.from_residual.result
    (nothing_noted c.args.self.now
    (puts (document_entries c.args.number c.args.indexes.now c.args.document.now)) c.put_document.new.self c.in_err-put_document.ensures.err)

pub returns-clause-ok : goal.returns-clause-ok
returns-clause-ok c =
    let same = entries_are c.args.number c.args.id.now c.args.indexes.now c.args.document.now c.args.keys.now c.requires.keyed c.requires.text in
    on_ok c.note_in_indexes.result (λ made. made ∙ (λ t. with_edits (puts (same t)) (c.in_ok-put_document.ensures.ok t))) c.note_in_indexes.ensures.ok

pub returns-clause-err : goal.returns-clause-err
returns-clause-err c =
    let same = entries_are c.args.number c.args.id.now c.args.indexes.now c.args.document.now c.args.keys.now c.requires.keyed c.requires.text in
    if_err c.note_in_indexes.result
    (λ some. behind_first
    (put_of (document_entry c.args.number c.args.document.now)) c.args.self.now _ c.put_document.new.self c.note_in_indexes.new.self
    c.in_ok-put_document.ensures.ok
    (subst (λ (es : List Edit). NotesSome c.put_document.new.self es c.note_in_indexes.new.self) (ap puts same) some))
    c.note_in_indexes.ensures.err

pub returns-clause-leads : goal.returns-clause-leads
returns-clause-leads c =
    on_ok c.note_in_indexes.result
    (λ made. inserts_into c.args.self.now c.note_in_indexes.new.self c.args.number c.args.indexes.now c.args.document.now c.allocator-alloc.ensures.rises made)
    (returns-clause-ok c)
