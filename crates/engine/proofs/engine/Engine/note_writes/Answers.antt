use Rattle.std.proofs.Common.{◌∷◌, ◌+◌, List, drop, subst}
use Rattle.std.proofs.lemmas.Result.{err_from_is_err_and}
use Rattle.statements.specs.declared.statements.Write.{Write}
use Rattle.engine.proofs.OnlyReading.{reads_none}
use Rattle.engine.proofs.UpdateSteps.{left_of, none_of, puttable_at, writes_all, writes_none, writes_on, writes_refused, WritesNoted}
use Rattle.engine.proofs.engine.Engine.note_writes.Goals as goal

pub writes-init : goal.writes-init
writes-init g c =
    writes_none g.D.Disk.history c.args.namespace.now c.args.writes.now c.args.home.now c.args.edits.now c.args.self.now
    (reads_none g.D.Disk.history c.args.self.now c.requires.sound) c.requires.limits

pub note_write-requires-clause-sound : goal.note_write-requires-clause-sound
note_write-requires-clause-sound g c = c.writes.invariant.reads.sound

pub note_write-requires-clause-limits : goal.note_write-requires-clause-limits
note_write-requires-clause-limits g c = c.writes.invariant.limits

pub note_write-requires-clause-puttable : goal.note_write-requires-clause-puttable
note_write-requires-clause-puttable g c =
    puttable_at c.args.writes.now c.writes.write-index c.write-item.result c.writes-test.true c.write-item.is c.requires.puttable

pub returns-in_err-note_write : goal.returns-in_err-note_write
returns-in_err-note_write g c =
    let p = err_from_is_err_and c.from_residual.result c.from_residual.ensures.1 in
    let history = g.D.Disk.history in
    let all = c.args.writes.now in
    let left = drop (c.writes.write-index + 1) all in
    let far : WritesNoted history c.args.namespace.now all
    (c.write-item.result ∷ left) c.args.home.now c.writes.home c.args.edits.now c.writes.edits c.args.self.now c.writes.self =
    subst (λ (ws : List Write). WritesNoted history c.args.namespace.now all ws c.args.home.now c.writes.home c.args.edits.now c.writes.edits c.args.self.now
    c.writes.self)
    (left_of all c.writes.write-index c.write-item.result c.writes-test.true c.write-item.is) c.writes.invariant in
    rw (p.1, p.2)
    (writes_refused history c.args.namespace.now all c.args.home.now c.args.edits.now c.args.self.now c.writes.self c.note_write.new.self c.write-item.result
    left c.writes.home c.note_write.new.home
    c.writes.edits c.note_write.new.edits far c.in_err-note_write.field-0.0 c.in_err-note_write.ensures.notes)

pub writes-preserved : goal.writes-preserved
writes-preserved g c =
    let history = g.D.Disk.history in
    let all = c.args.writes.now in
    let left = drop (c.writes.write-index + 1) all in
    let far : WritesNoted history c.args.namespace.now all
    (c.write-item.result ∷ left) c.args.home.now c.writes.home c.args.edits.now c.writes.edits c.args.self.now c.writes.self =
    subst (λ (ws : List Write). WritesNoted history c.args.namespace.now all ws c.args.home.now c.writes.home c.args.edits.now c.writes.edits c.args.self.now
    c.writes.self)
    (left_of all c.writes.write-index c.write-item.result c.writes-test.true c.write-item.is) c.writes.invariant in
    writes_on history c.args.namespace.now all c.args.home.now c.args.edits.now c.args.self.now c.writes.self c.note_write.new.self c.write-item.result left
    c.writes.home c.note_write.new.home
    c.writes.edits c.note_write.new.edits far c.in_ok-note_write.ensures.notes c.in_ok-note_write.ensures.limits

pub returns : goal.returns
returns g c =
    let history = g.D.Disk.history in
    let all = c.args.writes.now in
    writes_all history c.args.namespace.now all c.args.home.now c.args.edits.now c.args.self.now c.writes.self c.writes.home c.writes.edits
    (subst (λ (ws : List Write). WritesNoted history c.args.namespace.now all ws c.args.home.now c.writes.home c.args.edits.now c.writes.edits c.args.self.now
    c.writes.self)
    (none_of all c.writes.write-index c.writes-test.false) c.writes.invariant)
