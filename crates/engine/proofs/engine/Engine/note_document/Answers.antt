use Rattle.std.proofs.Common.{◌∙◌, sym, subst}
use Rattle.std.proofs.lemmas.Result.{err_from_is_err_and}
use Rattle.bson.specs.Lawful.{IsDocument}
use Rattle.engine.proofs.InsertSteps.{note_entered, note_unchecked}
use Rattle.engine.proofs.OnlyReading.{reads_none}
use Rattle.engine.proofs.StoringLemmas.{may_put, stored_storable}
use Rattle.engine.proofs.engine.Engine.note_document.Goals as goal

pub returns-in_err-moved-clause-notes : goal.returns-in_err-moved-clause-notes
returns-in_err-moved-clause-notes g c =
    let p = err_from_is_err_and c.from_residual.result c.from_residual.ensures.1 in
    let old = c.args.self.now in
    rw (p.1, p.2) (note_unchecked g.D.Disk.history c.args.namespace.now c.args.home.now c.args.edits.now c.args.document.now old c.in_err-moved.field-0.0
    (reads_none g.D.Disk.history old c.requires.sound) c.in_err-moved.ensures.checked)

pub enter-requires-clause-puttable : goal.enter-requires-clause-puttable
enter-requires-clause-puttable g c =
    let done = c.in_ok-moved.ensures in
    let is = c.as_stored-document.ensures in
    let d = c.as_stored-document.result.now in
    may_put d (stored_storable c.args.document.now d done.checked.0 (is ∙ done.checked.1) (subst IsDocument (sym is) done.readable))

pub returns-clause-notes : goal.returns-clause-notes
returns-clause-notes g c =
    let done = c.in_ok-moved.ensures in
    let is = c.as_stored-document.ensures in
    let d = c.as_stored-document.result.now in
    note_entered g.D.Disk.history c.args.namespace.now c.args.home.now c.args.edits.now c.args.document.now c.args.self.now d
    (stored_storable c.args.document.now d done.checked.0 (is ∙ done.checked.1) (subst IsDocument (sym is) done.readable)) done.checked.0
    (is ∙ done.checked.1) c.enter.new.home c.enter.new.edits c.enter.result c.enter.new.self c.enter.ensures.notes
