use Rattle.std.proofs.Common.{[], ◌∷◌}
use Rattle.bson.specs.Spelling.{frame_of, pairs_bytes}
use Rattle.value_order.specs.KeyText.{tree_text}
use Rattle.entries.specs.Indexed.{catalogue_put}
use Rattle.entry_model.specs.State.{words}
use Rattle.entry_model.specs.StateEntries.{key_under, catalogue_value}
use Rattle.entries.proofs.CatalogueValues.{some_short, edit_is, notes_of}
use Rattle.entries.proofs.ManyEditsLaws.{noted_goes}
use Rattle.entries.proofs.NotingLemmas.{on_ok, put_same, name_fits}
use Rattle.entries.proofs.edits.Edits.put_indexes.Goals as goal

pub note-requires : goal.note-requires
note-requires c = (
  name_fits c.args.namespace.now c.in_ok-key.key.items c.requires.name c.in_ok-key.ensures,
  λ x e. some_short c.in_ok-bytes.bytes.items x c.in_ok-bytes.ensures.short e,
)

pub returns-clause-ok : goal.returns-clause-ok
returns-clause-ok c =
    on_ok c.note.result
    (λ made. edit_is c.args.self.now c.note.new.self c.in_ok-key.key.items (key_under 0 0 (tree_text (words c.args.namespace.now))) c.in_ok-bytes.bytes.items
    (frame_of (pairs_bytes (catalogue_value c.args.number c.args.indexes.now))) c.in_ok-key.ensures c.in_ok-bytes.ensures.bytes made)
    c.note.ensures.ok

pub returns-clause-continues : goal.returns-clause-continues
returns-clause-continues c =
    on_ok c.note.result
    (λ made. noted_goes
    (catalogue_put c.args.namespace.now c.args.number c.args.indexes.now ∷ []) c.args.self.now c.note.new.self c.allocator-alloc.ensures.rises made)
    (returns-clause-ok c)

pub returns-clause-leads : goal.returns-clause-leads
returns-clause-leads c =
    on_ok c.note.result
    (λ leads. notes_of c.args.self.now c.note.new.self c.args.namespace.now c.args.number c.args.indexes.now
    (put_same c.args.self.now c.note.new.self c.in_ok-key.key.items (key_under 0 0 (tree_text (words c.args.namespace.now))) c.in_ok-bytes.bytes.items
    (frame_of (pairs_bytes (catalogue_value c.args.number c.args.indexes.now))) c.in_ok-key.ensures c.in_ok-bytes.ensures.bytes leads))
    c.note.ensures.leads
