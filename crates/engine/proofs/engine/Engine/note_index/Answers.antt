use Rattle.std.proofs.Common.{◌≡◌, ◌<◌, ◌≤◌, ℕ, List, length, sym, ap, ◌∙◌, arith}
use Rattle.std.proofs.lemmas.Result.{err_from_is_err_and}
use Rattle.command_model.specs.NewIndex.{defined}
use Rattle.index.specs.Definition.{Definition}
use Rattle.database_model.specs.CreateIndexes.{is_in_conflict, is_there, unused_index}
use Rattle.engine.proofs.IndexingSteps.{index_conflict, index_full, index_made, index_refused, index_stopped, index_there, index_unmade, index_without_memory}
use Rattle.engine.proofs.engine.Engine.note_index.Goals as goal

pub returns-then-is_stopped-clause-notes : goal.returns-then-is_stopped-clause-notes
returns-then-is_stopped-clause-notes g c =
    index_stopped g.D.Disk.history c.args.self.now c.requires.sound c.args.namespace.now c.args.home.now c.args.edits.now c.args.index.now
    (sym c.is_stopped.ensures ∙ c.if-is_stopped.true)

pub returns-then-is_there-clause-notes : goal.returns-then-is_there-clause-notes
returns-then-is_there-clause-notes g c =
    let there = ap (λ (is : List Definition). is_there is c.args.index.now) (sym c.deref.ensures.value) ∙ sym c.is_there.ensures ∙ c.if-is_there.true in
    index_there g.D.Disk.history c.args.self.now c.requires.sound c.args.namespace.now c.args.home.now c.args.edits.now c.args.index.now there

pub returns-then-is_in_conflict-clause-notes : goal.returns-then-is_in_conflict-clause-notes
returns-then-is_in_conflict-clause-notes g c =
    let new = ap (λ (is : List Definition). is_there is c.args.index.now) (sym c.deref.ensures.value) ∙ sym c.is_there.ensures ∙ c.if-is_there.false in
    let conflict = ap (λ (is : List Definition). is_in_conflict is c.args.index.now) (sym c.deref-2.ensures.value) ∙ sym c.is_in_conflict.ensures
    ∙ c.if-is_in_conflict.true in
    index_conflict g.D.Disk.history c.args.self.now c.requires.sound c.args.namespace.now c.args.home.now c.args.edits.now c.args.index.now new conflict

pub returns-then-len-ge-MOST_INDEXES-clause-notes : goal.returns-then-len-ge-MOST_INDEXES-clause-notes
returns-then-len-ge-MOST_INDEXES-clause-notes g c =
    let new = ap (λ (is : List Definition). is_there is c.args.index.now) (sym c.deref.ensures.value) ∙ sym c.is_there.ensures ∙ c.if-is_there.false in
    let clear = ap (λ (is : List Definition). is_in_conflict is c.args.index.now) (sym c.deref-2.ensures.value) ∙ sym c.is_in_conflict.ensures
    ∙ c.if-is_in_conflict.false in
    let many : 16 ≤ length c.args.home.now.indexes.items = omega (arith, c.if-len-ge-MOST_INDEXES.true, c.len.ensures, c.args.home.now.indexes.ok.0) in
    index_full g.D.Disk.history c.args.self.now c.requires.sound c.args.namespace.now c.args.home.now c.args.edits.now c.args.index.now new clear many

pub returns-in_err-spec-clause-notes : goal.returns-in_err-spec-clause-notes
returns-in_err-spec-clause-notes g c =
    let p = err_from_is_err_and c.from_residual.result c.from_residual.ensures.1 in
    let new = ap (λ (is : List Definition). is_there is c.args.index.now) (sym c.deref.ensures.value) ∙ sym c.is_there.ensures ∙ c.if-is_there.false in
    let clear = ap (λ (is : List Definition). is_in_conflict is c.args.index.now) (sym c.deref-2.ensures.value) ∙ sym c.is_in_conflict.ensures
    ∙ c.if-is_in_conflict.false in
    rw p.1 (index_without_memory g.D.Disk.history c.args.self.now c.requires.sound c.args.namespace.now c.args.home.now c.args.edits.now c.args.index.now new
    clear p.0 p.2)

pub returns-in_err-take_all-clause-notes : goal.returns-in_err-take_all-clause-notes
returns-in_err-take_all-clause-notes g c =
    let p = err_from_is_err_and c.from_residual-in_err-take_all.result c.from_residual-in_err-take_all.ensures.1 in
    let home = c.args.home.now in
    let new = ap (λ (is : List Definition). is_there is c.args.index.now) (sym c.deref.ensures.value) ∙ sym c.is_there.ensures ∙ c.if-is_there.false in
    let clear = ap (λ (is : List Definition). is_in_conflict is c.args.index.now) (sym c.deref-2.ensures.value) ∙ sym c.is_in_conflict.ensures
    ∙ c.if-is_in_conflict.false in
    let few : length home.indexes.items < 16 = omega (arith, c.if-len-ge-MOST_INDEXES.false, c.len.ensures, home.indexes.ok.0) in
    let spec = c.in_ok-spec.spec in
    let is : spec ≡ defined (unused_index home.indexes.items) c.args.index.now =
    c.in_ok-spec.ensures ∙ ap (λ (n : ℕ). defined n c.args.index.now) (c.unused_number.ensures.number ∙ ap unused_index c.deref-3.ensures.value) in
    rw (p.1, p.2)
    (index_refused g.D.Disk.history c.args.self.now c.requires.sound c.args.namespace.now home c.args.edits.now c.args.index.now new clear few spec is
    c.new-made.result c.new-made.ensures.begins c.new-made.ensures.lawful
    (sym c.is_stopped.ensures ∙ c.if-is_stopped.false) c.take_all.new.made c.take_all.new.self c.in_err-take_all.field-0.0 c.in_err-take_all.ensures)

pub returns-in_err-make_index-clause-notes : goal.returns-in_err-make_index-clause-notes
returns-in_err-make_index-clause-notes g c =
    let p = err_from_is_err_and c.from_residual-in_err-make_index.result c.from_residual-in_err-make_index.ensures.1 in
    let home = c.args.home.now in
    let new = ap (λ (is : List Definition). is_there is c.args.index.now) (sym c.deref.ensures.value) ∙ sym c.is_there.ensures ∙ c.if-is_there.false in
    let clear = ap (λ (is : List Definition). is_in_conflict is c.args.index.now) (sym c.deref-2.ensures.value) ∙ sym c.is_in_conflict.ensures
    ∙ c.if-is_in_conflict.false in
    let few : length home.indexes.items < 16 = omega (arith, c.if-len-ge-MOST_INDEXES.false, c.len.ensures, home.indexes.ok.0) in
    let spec = c.in_ok-spec.spec in
    let is : spec ≡ defined (unused_index home.indexes.items) c.args.index.now =
    c.in_ok-spec.ensures ∙ ap (λ (n : ℕ). defined n c.args.index.now) (c.unused_number.ensures.number ∙ ap unused_index c.deref-3.ensures.value) in
    rw p.1 (index_unmade g.D.Disk.history c.args.self.now c.requires.sound c.args.namespace.now home c.args.edits.now c.args.index.now new clear few spec is
    c.new-made.result c.new-made.ensures.begins c.new-made.ensures.lawful
    (sym c.is_stopped.ensures
    ∙ c.if-is_stopped.false) c.take_all.new.made c.take_all.new.self c.in_ok-take_all.ensures c.make_index.new.home c.make_index.new.self p.0 p.2)

pub returns-clause-notes : goal.returns-clause-notes
returns-clause-notes g c =
    let home = c.args.home.now in
    let new = ap (λ (is : List Definition). is_there is c.args.index.now) (sym c.deref.ensures.value) ∙ sym c.is_there.ensures ∙ c.if-is_there.false in
    let clear = ap (λ (is : List Definition). is_in_conflict is c.args.index.now) (sym c.deref-2.ensures.value) ∙ sym c.is_in_conflict.ensures
    ∙ c.if-is_in_conflict.false in
    let few : length home.indexes.items < 16 = omega (arith, c.if-len-ge-MOST_INDEXES.false, c.len.ensures, home.indexes.ok.0) in
    let spec = c.in_ok-spec.spec in
    let is : spec ≡ defined (unused_index home.indexes.items) c.args.index.now =
    c.in_ok-spec.ensures ∙ ap (λ (n : ℕ). defined n c.args.index.now) (c.unused_number.ensures.number ∙ ap unused_index c.deref-3.ensures.value) in
    index_made g.D.Disk.history c.args.self.now c.requires.sound c.args.namespace.now home c.args.edits.now c.args.index.now new clear few spec is
    c.new-made.result c.new-made.ensures.begins c.new-made.ensures.lawful
    (sym c.is_stopped.ensures
    ∙ c.if-is_stopped.false) c.take_all.new.made c.take_all.new.self c.in_ok-take_all.ensures c.make_index.new.home c.make_index.new.self
    c.make_index.ensures.number c.in_ok-make_index.ensures.indexes c.in_ok-make_index.ensures.makes
