use Rattle.std.proofs.Common.{◌∷◌, ◌+◌, List, drop, subst}
use Rattle.std.proofs.lemmas.Result.{err_from_is_err_and}
use Rattle.bson.specs.Tree.{Pairs}
use Rattle.command_model.specs.Insert.{documents_at}
use Rattle.engine.proofs.InsertSteps.{NotesSoFar, left_none, left_step, notes_all, notes_none, notes_on, notes_refused}
use Rattle.engine.proofs.OnlyReading.{reads_none}
use Rattle.engine.proofs.engine.Engine.note_documents.Goals as goal

pub documents-init : goal.documents-init
documents-init g c =
    notes_none g.D.Disk.history c.args.namespace.now (documents_at c.args.documents.now) c.args.home.now c.args.edits.now c.args.self.now
    (reads_none g.D.Disk.history c.args.self.now c.requires.sound) c.requires.limits

pub documents-preserved : goal.documents-preserved
documents-preserved g c =
    let history = g.D.Disk.history in
    let all = documents_at c.args.documents.now in
    let left = documents_at (drop (c.documents.document-index + 1) c.args.documents.now) in
    let far : NotesSoFar history c.args.namespace.now all
    (c.document-item.result.now ∷ left) c.args.home.now c.documents.home c.args.edits.now c.documents.edits c.args.self.now c.documents.self =
    subst (λ (ps : List Pairs). NotesSoFar history c.args.namespace.now all ps c.args.home.now c.documents.home c.args.edits.now c.documents.edits
    c.args.self.now c.documents.self)
    (left_step c.args.documents.now c.documents.document-index c.document-item.result c.documents-test.true c.document-item.is) c.documents.invariant in
    notes_on history c.args.namespace.now all c.args.home.now c.args.edits.now c.args.self.now c.documents.self c.note_document.new.self
    c.document-item.result.now left c.documents.home c.note_document.new.home
    c.documents.edits c.note_document.new.edits far c.in_ok-note_document.ensures.notes c.in_ok-note_document.ensures.limits

pub returns-in_err-note_document : goal.returns-in_err-note_document
returns-in_err-note_document g c =
    let p = err_from_is_err_and c.from_residual.result c.from_residual.ensures.1 in
    let history = g.D.Disk.history in
    let all = documents_at c.args.documents.now in
    let left = documents_at (drop (c.documents.document-index + 1) c.args.documents.now) in
    let far : NotesSoFar history c.args.namespace.now all
    (c.document-item.result.now ∷ left) c.args.home.now c.documents.home c.args.edits.now c.documents.edits c.args.self.now c.documents.self =
    subst (λ (ps : List Pairs). NotesSoFar history c.args.namespace.now all ps c.args.home.now c.documents.home c.args.edits.now c.documents.edits
    c.args.self.now c.documents.self)
    (left_step c.args.documents.now c.documents.document-index c.document-item.result c.documents-test.true c.document-item.is) c.documents.invariant in
    rw (p.1, p.2)
    (notes_refused history c.args.namespace.now all c.args.home.now c.args.edits.now c.args.self.now c.documents.self c.note_document.new.self
    c.document-item.result.now left c.documents.home c.note_document.new.home
    c.documents.edits c.note_document.new.edits far c.in_err-note_document.field-0.0 c.in_err-note_document.ensures.notes)

pub returns : goal.returns
returns g c =
    let history = g.D.Disk.history in
    let all = documents_at c.args.documents.now in
    notes_all history c.args.namespace.now all c.args.home.now c.args.edits.now c.args.self.now c.documents.self c.documents.home c.documents.edits
    (subst (λ (ps : List Pairs). NotesSoFar history c.args.namespace.now all ps c.args.home.now c.documents.home c.args.edits.now c.documents.edits
    c.args.self.now c.documents.self)
    (left_none c.args.documents.now c.documents.document-index c.documents-test.false) c.documents.invariant)
