use Rattle.std.proofs.Common.{◌+◌, refl, sym, subst, ◌∙◌}
use Rattle.std.proofs.lemmas.Result.{err_from_is_err_and}
use Rattle.replies.specs.View.{IsSendable}
use Rattle.engine.proofs.CreatingIndexes.{create_changes, create_done, create_undone, create_unplanned, create_without_memory, planned_mid}
use Rattle.replies.proofs.SpelledSizes.{create_indexes-sendable}
use Rattle.engine.proofs.engine.Engine.create_indexes.Goals as goal

pub returns-in_err-planned-clause-performs : goal.returns-in_err-planned-clause-performs
returns-in_err-planned-clause-performs g c =
    let p = err_from_is_err_and c.from_residual.result c.from_residual.ensures.1 in
    rw (p.1, p.2)
    (create_unplanned g.D.Disk.history c.args.namespace.now c.args.indexes.now c.args.self.now c.planned_indexes.new.self c.in_err-planned.field-0.0
    c.in_err-planned.ensures.tries)

pub returns-in_err-reply-clause-performs : goal.returns-in_err-reply-clause-performs
returns-in_err-reply-clause-performs g c =
    let p = err_from_is_err_and c.from_residual-in_err-reply.result c.from_residual-in_err-reply.ensures.1 in
    rw p.1 (create_without_memory g.D.Disk.history c.args.namespace.now c.args.indexes.now c.args.self.now c.planned_indexes.new.self c.in_ok-planned.planned
    c.in_ok-planned.ensures.tries p.0 p.2)

pub put_planned-requires-clause-sound : goal.put_planned-requires-clause-sound
put_planned-requires-clause-sound g c = c.in_ok-planned.ensures.tries.reads.sound

pub put_planned-requires-clause-planned : goal.put_planned-requires-clause-planned
put_planned-requires-clause-planned g c =
    planned_mid g.D.Disk.history c.args.namespace.now c.args.indexes.now c.args.self.now c.planned_indexes.new.self c.in_ok-planned.planned
    c.in_ok-planned.ensures.tries

pub returns-in_err-put_planned-clause-performs : goal.returns-in_err-put_planned-clause-performs
returns-in_err-put_planned-clause-performs g c =
    let p = err_from_is_err_and c.from_residual-in_err-put_planned.result c.from_residual-in_err-put_planned.ensures.1 in
    rw (p.1, p.2)
    (create_undone g.D.Disk.history c.args.namespace.now c.args.indexes.now c.args.self.now c.planned_indexes.new.self c.in_ok-planned.planned
    c.in_ok-planned.ensures.tries c.put_planned.new.self
    c.in_err-put_planned.field-0.0 c.in_err-put_planned.ensures.makes)

pub returns-in_err-put_planned-clause-has_changes : goal.returns-in_err-put_planned-clause-has_changes
returns-in_err-put_planned-clause-has_changes g c = λ k same. c.in_err-put_planned.ensures.makes.refused ∙ c.in_ok-planned.ensures.tries.reads.changes

pub returns-clause-performs : goal.returns-clause-performs
returns-clause-performs g c =
    let p = c.in_ok-planned.planned in
    create_done g.D.Disk.history c.args.namespace.now c.args.indexes.now c.args.self.now c.planned_indexes.new.self p c.in_ok-planned.ensures.tries
    c.put_planned.new.self
    (1 + p.before) (1 + p.after) c.in_ok-reply.reply refl refl c.in_ok-reply.ensures c.in_ok-put_planned.ensures.makes

pub returns-clause-has_changes : goal.returns-clause-has_changes
returns-clause-has_changes g c =
    create_changes g.D.Disk.history c.args.namespace.now c.args.indexes.now c.args.self.now c.planned_indexes.new.self c.in_ok-planned.planned
    c.in_ok-planned.ensures.tries c.put_planned.new.self
    c.in_ok-put_planned.ensures.makes c.in_ok-put_planned.ensures.has_changes

pub returns-clause-sendable : goal.returns-clause-sendable
returns-clause-sendable g c =
    let p = c.in_ok-planned.planned in
    subst IsSendable (sym c.in_ok-reply.ensures) (create_indexes-sendable (1 + p.before) (1 + p.after) p.is_new)
