use Rattle.std.proofs.Common.{ℕ, ◌≤◌, List, map, length, subst, ◌∙◌, arith}
use Rattle.std.specs.Global.{Vec}
use Rattle.tree_model.specs.Keys.{Edit}
use Rattle.entries.specs.Indexed.{with_edits, edit_by, edits_by, entries_at, entries_in_all, NotesSome}
use Rattle.index.specs.View.{texts_of}
use Rattle.entries.proofs.LoopLemmas.{on_err}
use Rattle.entries.proofs.IndexedLoops.{step, cut_off, last, all_at}
use Rattle.entries.proofs.edits.Edits.note_in_indexes.Goals as goal

abbrev T : Vec (Vec ℕ) → List (List ℕ)
T ks = texts_of ks.items

pub indexes-preserved : goal.indexes-preserved
indexes-preserved c =
    let n = c.args.number in
    let id = c.args.id.now in
    step T (edit_by c.args.what) n id c.args.indexes.now c.args.keys.now c.args.self.now
    (edits_by c.args.what (entries_in_all n id c.args.indexes.now (map T c.args.keys.now))) c.indexes.at c.index-indexes-at.result c.index-keys-at.result
    c.indexes.self
    c.note_keys.new.self
    c.indexes-test.true c.requires.one_each c.index-indexes-at.is c.index-keys-at.is c.indexes.invariant
    (c.in_ok-note_keys.ensures.ok ∙ (λ t. with_edits (edits_by c.args.what (entries_at n (c.number.ensures.number t) id (texts_of (c.deref.ensures.value t))))
    c.indexes.self))

pub note_keys-requires : goal.note_keys-requires
note_keys-requires c = record {
  id = c.requires.id;
  keys = all_at (λ ks. ks.items) (λ key. length key.items ≤ 500) c.args.keys.now c.indexes.at c.index-keys-at.result c.deref.result.now c.requires.keys
      (omega (arith, c.indexes-test.true, c.requires.one_each)) c.index-keys-at.is c.deref.ensures.value;
}

pub returns-in_err-note_keys-clause-err : goal.returns-in_err-note_keys-clause-err
returns-in_err-note_keys-clause-err c =
    let n = c.args.number in
    let id = c.args.id.now in
    on_err c.from_residual.result
    (cut_off T (edit_by c.args.what) n id c.args.indexes.now c.args.keys.now c.args.self.now
    (edits_by c.args.what (entries_in_all n id c.args.indexes.now (map T c.args.keys.now))) c.indexes.at c.index-indexes-at.result c.index-keys-at.result
    c.indexes.self
    c.note_keys.new.self
    c.indexes-test.true c.requires.one_each c.index-indexes-at.is c.index-keys-at.is c.indexes.invariant
    (subst (λ (es : List Edit). NotesSome c.indexes.self es c.note_keys.new.self)
    (λ t. edits_by c.args.what (entries_at n (c.number.ensures.number t) id (texts_of (c.deref.ensures.value t)))) c.in_err-note_keys.ensures.err))

pub returns-clause-ok : goal.returns-clause-ok
returns-clause-ok c =
    let n = c.args.number in
    let id = c.args.id.now in
    last T (edit_by c.args.what) n id c.args.indexes.now c.args.keys.now c.args.self.now
    (edits_by c.args.what (entries_in_all n id c.args.indexes.now (map T c.args.keys.now))) c.indexes.at c.indexes.self c.indexes-test.false c.indexes.invariant
