use Rattle.std.proofs.Common.{List, Ok, Err, rules, subst}
use Rattle.std.proofs.lemmas.Result.{err_from_is_err_and}
use Rattle.engine.specs.Putting.{NotesWrites}
use Rattle.engine.specs.View.{world}
use Rattle.statements.specs.declared.statements.Write.{Write}
use Rattle.engine.proofs.UpdateLemmas.{nothing_changed, nothing_replied, update_done, update_leads, update_unmade, update_unnoted, update_unsaid}
use Rattle.engine.proofs.UpdateLemmas.{update_unwritten, updated_lawful}
use Rattle.engine.proofs.engine.Engine.update.Goals as goal

pub returns-in_err-ran-clause-performs : goal.returns-in_err-ran-clause-performs
returns-in_err-ran-clause-performs g c =
    let p = err_from_is_err_and c.from_residual.result c.from_residual.ensures.1 in
    rw (p.1, p.2)
    (update_unmade g.D.Disk.history c.args.namespace.now c.args.statements.now c.args.self.now c.updated.new.self c.in_err-ran.field-0.0
    c.in_err-ran.ensures.tries)

pub returns-then-are_none-clause-performs : goal.returns-then-are_none-clause-performs
returns-then-are_none-clause-performs g c =
    let x = c.in_ok-ran.ran in
    nothing_replied g.D.Disk.history c.args.namespace.now c.args.statements.now c.args.self.now c.updated.new.self x c.in_ok-ran.ensures.tries
    (c.are_none.ensures.all c.if-are_none.true) c.reply_of.result c.reply_of.ensures.replies

pub returns-in_err-edits-clause-performs : goal.returns-in_err-edits-clause-performs
returns-in_err-edits-clause-performs g c =
    let p = err_from_is_err_and c.from_residual-in_err-edits.result c.from_residual-in_err-edits.ensures.1 in
    let x = c.in_ok-ran.ran in
    let e = c.in_err-edits.field-0.0 in
    let some = c.are_none.ensures.some c.if-are_none.false in
    let notes : NotesWrites g.D.Disk.history c.args.namespace.now x.writes.items (Err e) c.updated.new.self c.edits_of.new.self =
    subst (λ (ws : List Write). NotesWrites g.D.Disk.history c.args.namespace.now ws (Err e) c.updated.new.self c.edits_of.new.self) c.deref.ensures.value
    c.in_err-edits.ensures in
    rw (p.1, p.2)
    (update_unnoted g.D.Disk.history c.args.namespace.now c.args.statements.now c.args.self.now c.updated.new.self x c.in_ok-ran.ensures.tries some
    c.edits_of.new.self e notes)

pub returns-in_err-reply-clause-performs : goal.returns-in_err-reply-clause-performs
returns-in_err-reply-clause-performs g c =
    let p = err_from_is_err_and c.from_residual-in_err-reply.result c.from_residual-in_err-reply.ensures.1 in
    let x = c.in_ok-ran.ran in
    let edits = c.in_ok-edits.edits in
    let some = c.are_none.ensures.some c.if-are_none.false in
    let notes : NotesWrites g.D.Disk.history c.args.namespace.now x.writes.items (Ok edits) c.updated.new.self c.edits_of.new.self =
    subst (λ (ws : List Write). NotesWrites g.D.Disk.history c.args.namespace.now ws (Ok edits) c.updated.new.self c.edits_of.new.self) c.deref.ensures.value
    c.in_ok-edits.ensures in
    rw (p.1, p.2)
    (update_unsaid g.D.Disk.history c.args.namespace.now c.args.statements.now c.args.self.now c.updated.new.self x c.in_ok-ran.ensures.tries some
    c.edits_of.new.self edits notes
    c.in_err-reply.field-0.0 c.in_err-reply.ensures.replies)

pub write-requires : goal.write-requires
write-requires g c κs within =
    let x = c.in_ok-ran.ran in
    let edits = c.in_ok-edits.edits in
    let some = c.are_none.ensures.some c.if-are_none.false in
    let notes : NotesWrites g.D.Disk.history c.args.namespace.now x.writes.items (Ok edits) c.updated.new.self c.edits_of.new.self =
    subst (λ (ws : List Write). NotesWrites g.D.Disk.history c.args.namespace.now ws (Ok edits) c.updated.new.self c.edits_of.new.self) c.deref.ensures.value
    c.in_ok-edits.ensures in (
      search rules,
      (
        search rules,
        (
          notes.reads.sound,
          (
            updated_lawful c.args.namespace.now c.args.statements.now
                (world c.edits_of.new.self).collections notes.reads.sound.lawful c.requires.short c.requires.read,
            update_leads g.D.Disk.history c.args.namespace.now c.args.statements.now c.args.self.now c.updated.new.self x c.in_ok-ran.ensures.tries some
                c.edits_of.new.self edits notes
                c.in_ok-reply.reply c.in_ok-reply.ensures.replies,
          ),
        ),
      ),
    )

pub returns-in_err-write-clause-performs : goal.returns-in_err-write-clause-performs
returns-in_err-write-clause-performs g c =
    let p = err_from_is_err_and c.from_residual-in_err-write.result c.from_residual-in_err-write.ensures.1 in
    let x = c.in_ok-ran.ran in
    let edits = c.in_ok-edits.edits in
    let some = c.are_none.ensures.some c.if-are_none.false in
    let notes : NotesWrites g.D.Disk.history c.args.namespace.now x.writes.items (Ok edits) c.updated.new.self c.edits_of.new.self =
    subst (λ (ws : List Write). NotesWrites g.D.Disk.history c.args.namespace.now ws (Ok edits) c.updated.new.self c.edits_of.new.self) c.deref.ensures.value
    c.in_ok-edits.ensures in
    rw (p.1, p.2)
    (update_unwritten g.D.Disk.history c.args.namespace.now c.args.statements.now c.args.self.now c.updated.new.self x c.in_ok-ran.ensures.tries some
    c.edits_of.new.self edits notes
    c.in_ok-reply.reply c.in_ok-reply.ensures.replies c.write.new.self c.in_err-write.field-0.0 c.in_err-write.ensures)

pub returns-clause-performs : goal.returns-clause-performs
returns-clause-performs g c =
    let x = c.in_ok-ran.ran in
    let edits = c.in_ok-edits.edits in
    let some = c.are_none.ensures.some c.if-are_none.false in
    let notes : NotesWrites g.D.Disk.history c.args.namespace.now x.writes.items (Ok edits) c.updated.new.self c.edits_of.new.self =
    subst (λ (ws : List Write). NotesWrites g.D.Disk.history c.args.namespace.now ws (Ok edits) c.updated.new.self c.edits_of.new.self) c.deref.ensures.value
    c.in_ok-edits.ensures in
    update_done g.D.Disk.history c.args.namespace.now c.args.statements.now c.args.self.now c.updated.new.self x c.in_ok-ran.ensures.tries some
    c.edits_of.new.self edits notes
    c.in_ok-reply.reply c.in_ok-reply.ensures.replies c.write.new.self c.in_ok-write.ensures

pub returns-clause-has_changes : goal.returns-clause-has_changes
returns-clause-has_changes g c = λ k same none.
    let x = c.in_ok-ran.ran in
    let edits = c.in_ok-edits.edits in
    let some = c.are_none.ensures.some c.if-are_none.false in
    let notes : NotesWrites g.D.Disk.history c.args.namespace.now x.writes.items (Ok edits) c.updated.new.self c.edits_of.new.self =
    subst (λ (ws : List Write). NotesWrites g.D.Disk.history c.args.namespace.now ws (Ok edits) c.updated.new.self c.edits_of.new.self) c.deref.ensures.value
    c.in_ok-edits.ensures in
    nothing_changed g.D.Disk.history c.args.namespace.now c.args.statements.now c.args.self.now c.updated.new.self x c.in_ok-ran.ensures.tries some
    c.edits_of.new.self edits notes
    c.in_ok-reply.reply c.in_ok-reply.ensures.replies c.write.new.self c.in_ok-write.ensures k none
