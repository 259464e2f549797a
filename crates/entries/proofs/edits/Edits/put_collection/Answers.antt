use Rattle.std.proofs.Common.{[], ◌∙◌}
use Rattle.bson.specs.Spelling.{frame_of, pairs_bytes}
use Rattle.value_order.specs.KeyText.{tree_text}
use Rattle.entry_model.specs.State.{words}
use Rattle.entry_model.specs.StateEntries.{key_under, catalogue_value}
use Rattle.entries.proofs.NotingLemmas.{on_ok, put_same, name_fits, catalogue_fits}
use Rattle.entries.proofs.StateEditLaws.{adds_with}
use Rattle.entries.proofs.edits.Edits.put_collection.Goals as goal

pub note-requires : goal.note-requires
note-requires c = (
  name_fits c.args.namespace.now c.in_ok-key.key.items c.requires.name c.in_ok-key.ensures,
  λ x e. catalogue_fits c.args.number c.in_ok-bytes.bytes.items x (c.in_ok-bytes.ensures.items ∙ c.plain_bytes.ensures) e,
)

pub returns-clause-leads : goal.returns-clause-leads
returns-clause-leads c =
    on_ok c.note.result
    (λ leads. adds_with c.args.self.now c.note.new.self c.args.namespace.now c.args.number c.utf8.namespace c.requires.name c.requires.number.0
    c.requires.number.1
    (put_same c.args.self.now c.note.new.self c.in_ok-key.key.items (key_under 0 0 (tree_text (words c.args.namespace.now))) c.in_ok-bytes.bytes.items
    (frame_of (pairs_bytes (catalogue_value c.args.number []))) c.in_ok-key.ensures (c.in_ok-bytes.ensures.items ∙ c.plain_bytes.ensures) leads))
    c.note.ensures.leads
