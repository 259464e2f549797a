use Rattle.std.proofs.Common.{List, ap, subst, ◌∙◌}
use Rattle.tree_model.specs.Keys.{Entry, Edit}
use Rattle.entries.specs.Indexed.{with_edits, NotesSome}
use Rattle.entry_model.specs.StateEntries.{index_entries, puts}
use Rattle.index.specs.View.{texts_of}
use Rattle.entries.proofs.LoopLemmas.{if_err}
use Rattle.entries.proofs.NotingLemmas.{on_ok}
use Rattle.entries.proofs.ManyEditsLaws.{noted_goes}
use Rattle.entries.proofs.IndexedLaws.{short_keys, entries_of_one}
use Rattle.entries.proofs.edits.Edits.put_entries.Goals as goal

pub note_keys-requires : goal.note_keys-requires
note_keys-requires c = record {
  id = c.requires.short;
  keys = short_keys c.args.index.now.fields c.args.document.now c.args.keys.now c.requires.keyed;
}

pub returns-clause-ok : goal.returns-clause-ok
returns-clause-ok c =
    let same = entries_of_one c.args.number c.args.id.now c.args.index.now c.number.result c.args.document.now
    (texts_of c.args.keys.now) c.number.ensures.number c.requires.keyed c.requires.text in
    on_ok c.note_keys.result (λ made. made ∙ ap (λ (xs : List Entry). with_edits (puts xs) c.args.self.now) same) c.note_keys.ensures.ok

pub returns-clause-err : goal.returns-clause-err
returns-clause-err c =
    let same = entries_of_one c.args.number c.args.id.now c.args.index.now c.number.result c.args.document.now
    (texts_of c.args.keys.now) c.number.ensures.number c.requires.keyed c.requires.text in
    if_err c.note_keys.result (λ some. subst (λ (es : List Edit). NotesSome c.args.self.now es c.note_keys.new.self) (ap puts same) some)
    c.note_keys.ensures.err

pub returns-clause-continues : goal.returns-clause-continues
returns-clause-continues c =
    on_ok c.note_keys.result
    (λ made. noted_goes
    (puts (index_entries c.args.number c.args.document.now c.args.index.now)) c.args.self.now c.note_keys.new.self c.allocator-alloc.ensures.rises made)
    (returns-clause-ok c)
