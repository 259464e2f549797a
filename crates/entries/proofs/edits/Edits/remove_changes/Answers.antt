use Rattle.std.proofs.Common.{◌≡◌, ℕ, ◌≤◌, List, map, length, sym, ap, subst, ◌∙◌, arith}
use Rattle.tree_model.specs.Keys.{Edit}
use Rattle.index.specs.declared.changes.KeyChanges.{KeyChanges}
use Rattle.entries.specs.Indexed.{with_edits, entries_at, entries_in_all, NotesSome}
use Rattle.entry_model.specs.StateEntries.{removal_of, removals}
use Rattle.entries.proofs.LoopLemmas.{on_err}
use Rattle.entries.proofs.IndexedLoops.{step, cut_off, last, all_at}
use Rattle.entries.proofs.edits.Edits.remove_changes.Goals as goal

abbrev T : KeyChanges → List (List ℕ)
T c = map (λ key. key.now) c.removed.items

pub indexes-preserved : goal.indexes-preserved
indexes-preserved c =
    let val : c.deref.result.now ≡ c.index-changes-at.result.removed.items =
    c.deref.ensures.value ∙ ap (λ (e : KeyChanges). e.removed.items) (sym c.index-changes-at.is) in
    let n = c.args.number in
    let id = c.args.id.now in
    step T removal_of n id c.args.indexes.now c.args.changes.now c.args.self.now
    (removals (entries_in_all n id c.args.indexes.now (map T c.args.changes.now))) c.indexes.at c.index-indexes-at.result c.index-changes-at.result
    c.indexes.self c.note_changed.new.self
    c.indexes-test.true c.requires.one_each c.index-indexes-at.is c.index-changes-at.is c.indexes.invariant
    (c.in_ok-note_changed.ensures.ok ∙ (λ t. with_edits (removals (entries_at n (c.number.ensures.number t) id (map (λ key. key.now) (val t)))) c.indexes.self))

pub note_changed-requires : goal.note_changed-requires
note_changed-requires c =
    let val : c.deref.result.now ≡ c.index-changes-at.result.removed.items =
    c.deref.ensures.value ∙ ap (λ (e : KeyChanges). e.removed.items) (sym c.index-changes-at.is) in
    record {
      id = c.requires.id;
      keys = all_at (λ (e : KeyChanges). e.removed.items)
          (λ key. length key.now ≤ 500) c.args.changes.now c.indexes.at c.index-changes-at.result c.deref.result.now c.requires.keys
          (omega (arith, c.indexes-test.true, c.requires.one_each)) c.index-changes-at.is val;
    }

pub returns-in_err-note_changed-clause-err : goal.returns-in_err-note_changed-clause-err
returns-in_err-note_changed-clause-err c =
    let val : c.deref.result.now ≡ c.index-changes-at.result.removed.items =
    c.deref.ensures.value ∙ ap (λ (e : KeyChanges). e.removed.items) (sym c.index-changes-at.is) in
    let n = c.args.number in
    let id = c.args.id.now in
    on_err c.from_residual.result
    (cut_off T removal_of n id c.args.indexes.now c.args.changes.now c.args.self.now
    (removals (entries_in_all n id c.args.indexes.now (map T c.args.changes.now))) c.indexes.at c.index-indexes-at.result c.index-changes-at.result
    c.indexes.self c.note_changed.new.self
    c.indexes-test.true c.requires.one_each c.index-indexes-at.is c.index-changes-at.is c.indexes.invariant
    (subst (λ (es : List Edit). NotesSome c.indexes.self es c.note_changed.new.self)
    (λ t. removals (entries_at n (c.number.ensures.number t) id (map (λ key. key.now) (val t)))) c.in_err-note_changed.ensures.err))

pub returns-clause-ok : goal.returns-clause-ok
returns-clause-ok c =
    let n = c.args.number in
    let id = c.args.id.now in
    last T removal_of n id c.args.indexes.now c.args.changes.now c.args.self.now
    (removals (entries_in_all n id c.args.indexes.now (map T c.args.changes.now))) c.indexes.at c.indexes.self c.indexes-test.false c.indexes.invariant
