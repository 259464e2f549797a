use Rattle.std.proofs.Common.{ℕ, List, [], ◌∷◌, map, get_or, Bor, refl}
use Rattle.tree_model.specs.Keys.{Edit}
use Rattle.entries.specs.declared.indexed_edits.EntryEdit.{EntryEdit}
use Rattle.entries.specs.Indexed.{edit_by, edits_by, entries_at, entry_at}
use Rattle.entries.proofs.ManyEditsLaws.{stays}
use Rattle.entries.proofs.LoopLemmas.{step, last, on_err, at_any}
use Rattle.entries.proofs.edits.Edits.note_changed.Goals as goal

abbrev all : EntryEdit → ℕ → ℕ → List ℕ → List (Bor (List ℕ)) → List Edit
all what number index id keys = edits_by what (entries_at number index id (map (λ key. key.now) keys))

abbrev one : EntryEdit → ℕ → ℕ → List ℕ → Bor (List ℕ) → List Edit
one what number index id key = edit_by what (entry_at number index id key.now) ∷ []

abbrev none : Bor (List ℕ)
none = record { ref_ptr = (0, 0); now = [] }

pub keys-preserved : goal.keys-preserved
keys-preserved c =
    let n = c.args.number in
    let i = c.args.index in
    let id = c.args.id.now in
    let key = get_or c.args.keys.now c.keys.key-index none in
    step (all c.args.what n i id) (one c.args.what n i id) (record { first = λ x xs. refl; none = refl }) c.args.self.now
    (all c.args.what n i id c.args.keys.now) c.args.keys.now c.keys.key-index key c.keys.self c.note_entry.new.self
    c.keys-test.true (at_any c.args.keys.now c.keys.key-index none key c.keys-test.true) c.keys.invariant c.in_ok-note_entry.ensures.ok

pub returns-in_err-note_entry-clause-err : goal.returns-in_err-note_entry-clause-err
returns-in_err-note_entry-clause-err c =
    on_err c.from_residual.result
    (stays c.args.self.now
    (all c.args.what c.args.number c.args.index c.args.id.now c.args.keys.now) _ c.note_entry.new.self c.keys.self c.keys.invariant
    c.in_err-note_entry.ensures.err)

pub returns-clause-ok : goal.returns-clause-ok
returns-clause-ok c =
    let n = c.args.number in
    let i = c.args.index in
    let id = c.args.id.now in
    last (all c.args.what n i id) (one c.args.what n i id) (record { first = λ x xs. refl; none = refl }) c.args.self.now
    (all c.args.what n i id c.args.keys.now) c.args.keys.now c.keys.key-index c.keys.self c.keys-test.false c.keys.invariant
