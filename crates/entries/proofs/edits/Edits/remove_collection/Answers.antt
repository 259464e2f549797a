use Rattle.value_order.specs.KeyText.{tree_text}
use Rattle.entry_model.specs.State.{words}
use Rattle.entry_model.specs.StateEntries.{key_under}
use Rattle.entries.proofs.NotingLemmas.{on_ok, removed_same, name_fits}
use Rattle.entries.proofs.StateEditLaws.{drops_with}
use Rattle.entries.proofs.edits.Edits.remove_collection.Goals as goal

pub note-requires : goal.note-requires
note-requires c = (
  name_fits c.args.namespace.now c.in_ok-key.key.items c.requires.name c.in_ok-key.ensures,
  λ x e. absurd cc,
)

pub returns-clause-leads : goal.returns-clause-leads
returns-clause-leads c =
    on_ok c.note.result
    (λ leads. drops_with c.args.self.now c.note.new.self c.args.namespace.now
    (removed_same c.args.self.now c.note.new.self c.in_ok-key.key.items (key_under 0 0 (tree_text (words c.args.namespace.now))) c.in_ok-key.ensures leads))
    c.note.ensures.leads
