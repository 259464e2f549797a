use Rattle.std.proofs.Common.{◌∷◌, ◌+◌, List, drop, subst}
use Rattle.std.proofs.lemmas.List.{drop_all}
use Rattle.std.proofs.lemmas.Result.{err_from_is_err_and}
use Rattle.command_model.specs.NewIndex.{NewIndex}
use Rattle.engine.proofs.IndexingSteps.{each_index}
use Rattle.engine.proofs.NotingEach.{NotesTo, noted_all, noted_none, noted_on, noted_refused}
use Rattle.engine.proofs.OnlyReading.{reads_none}
use Rattle.replies.proofs.Steps.{drop_step}
use Rattle.engine.proofs.engine.Engine.note_indexes.Goals as goal

pub indexes-init : goal.indexes-init
indexes-init g c =
    noted_none g.D.Disk.history (each_index c.args.namespace.now) c.args.namespace.now c.args.indexes.now c.args.home.now c.args.edits.now c.args.self.now
    (reads_none g.D.Disk.history c.args.self.now c.requires.sound) c.requires.limits

pub note_index-requires-clause-sound : goal.note_index-requires-clause-sound
note_index-requires-clause-sound g c = c.indexes.invariant.reads.sound

pub note_index-requires-clause-limits : goal.note_index-requires-clause-limits
note_index-requires-clause-limits g c = c.indexes.invariant.limits

pub indexes-preserved : goal.indexes-preserved
indexes-preserved g c =
    let history = g.D.Disk.history in
    let name = c.args.namespace.now in
    let all = c.args.indexes.now in
    let i = c.indexes.index-index in
    let n = c.index-item.result in
    let far : NotesTo history (each_index name) name all
    (n ∷ drop (i + 1) all) c.args.home.now c.indexes.home c.args.edits.now c.indexes.edits c.args.self.now c.indexes.self =
    subst (λ (left : List NewIndex). NotesTo history
    (each_index name) name all left c.args.home.now c.indexes.home c.args.edits.now c.indexes.edits c.args.self.now c.indexes.self)
    (drop_step all i n c.indexes-test.true c.index-item.is) c.indexes.invariant in
    noted_on history (each_index name) name all c.args.home.now c.args.edits.now c.args.self.now c.indexes.self c.note_index.new.self n
    (drop (i + 1) all) c.indexes.home c.note_index.new.home
    c.indexes.edits c.note_index.new.edits far c.in_ok-note_index.ensures.notes c.in_ok-note_index.ensures.limits

pub returns-in_err-note_index-clause-notes : goal.returns-in_err-note_index-clause-notes
returns-in_err-note_index-clause-notes g c =
    let p = err_from_is_err_and c.from_residual.result c.from_residual.ensures.1 in
    let history = g.D.Disk.history in
    let name = c.args.namespace.now in
    let all = c.args.indexes.now in
    let i = c.indexes.index-index in
    let n = c.index-item.result in
    let far : NotesTo history (each_index name) name all
    (n ∷ drop (i + 1) all) c.args.home.now c.indexes.home c.args.edits.now c.indexes.edits c.args.self.now c.indexes.self =
    subst (λ (left : List NewIndex). NotesTo history
    (each_index name) name all left c.args.home.now c.indexes.home c.args.edits.now c.indexes.edits c.args.self.now c.indexes.self)
    (drop_step all i n c.indexes-test.true c.index-item.is) c.indexes.invariant in
    rw (p.1, p.2)
    (noted_refused history (each_index name) name all c.args.home.now c.args.edits.now c.args.self.now c.indexes.self c.note_index.new.self n
    (drop (i + 1) all) c.indexes.home c.note_index.new.home
    c.indexes.edits c.note_index.new.edits far c.in_err-note_index.field-0.0 c.in_err-note_index.ensures.notes)

pub returns-clause-notes : goal.returns-clause-notes
returns-clause-notes g c =
    let history = g.D.Disk.history in
    let name = c.args.namespace.now in
    let all = c.args.indexes.now in
    noted_all history (each_index name) name all c.args.home.now c.args.edits.now c.args.self.now c.indexes.self c.indexes.home c.indexes.edits
    (subst (λ (left : List NewIndex). NotesTo history
    (each_index name) name all left c.args.home.now c.indexes.home c.args.edits.now c.indexes.edits c.args.self.now c.indexes.self)
    (drop_all c.indexes.index-index all c.indexes-test.false) c.indexes.invariant)

pub returns-clause-limits : goal.returns-clause-limits
returns-clause-limits g c = c.indexes.invariant.limits
