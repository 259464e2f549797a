use Rattle.std.proofs.Common.{ℕ, ◌+◌, sym, subst, ap, ◌∙◌}
use Rattle.std.proofs.lemmas.Result.{err_from_is_err_and}
use Rattle.commands.specs.View.{dropped_of}
use Rattle.database_model.specs.DropIndexes.{left_by, run_drop_indexes}
use Rattle.replies.specs.View.{IsSendable}
use Rattle.engine.specs.View.{world}
use Rattle.engine.proofs.DroppingIndexes.{may_be_left, unlisted_changes, unlisted_done, unlisted_home, unlisted_missing, unlisted_refused, unlisted_undone}
use Rattle.engine.proofs.DroppingIndexes.{unlisted_without_memory}
use Rattle.engine.proofs.LookingLemmas.{performs_refused}
use Rattle.replies.proofs.SpelledSizes.{drop_indexes-sendable}
use Rattle.engine.proofs.engine.Engine.drop_indexes.Goals as goal

pub returns-in_err-home-clause-performs : goal.returns-in_err-home-clause-performs
returns-in_err-home-clause-performs g c =
    let p = err_from_is_err_and c.from_residual.result c.from_residual.ensures.1 in
    let old = c.args.self.now in
    rw (p.1, p.2)
    (performs_refused g.D.Disk.history old c.catalogued.new.self
    (run_drop_indexes (world old) (record { namespace = c.args.namespace.now; indexes = dropped_of c.args.dropped.now }))
    c.in_err-home.field-0.0 c.in_err-home.ensures.looks.reads c.in_err-home.ensures.looks.answers).performs

pub returns-in_default-clause-performs : goal.returns-in_default-clause-performs
returns-in_default-clause-performs g c =
    unlisted_missing g.D.Disk.history c.args.namespace.now (dropped_of c.args.dropped.now) c.args.self.now c.catalogued.new.self
    (rw c.in_default.is at c.in_ok-home.ensures.looks)

pub returns-in_err-check_dropped-clause-performs : goal.returns-in_err-check_dropped-clause-performs
returns-in_err-check_dropped-clause-performs g c =
    let p = err_from_is_err_and c.from_residual-in_err-check_dropped.result c.from_residual-in_err-check_dropped.ensures.1 in
    let away = dropped_of c.args.dropped.now in
    rw (p.1, p.2)
    (unlisted_refused g.D.Disk.history c.args.namespace.now away c.args.self.now c.catalogued.new.self c.in-Some.home
    (rw c.in-Some.is at c.in_ok-home.ensures.looks)
    c.in_err-check_dropped.field-0.0 (ap (left_by away) (sym c.deref.ensures.value) ∙ c.in_err-check_dropped.ensures.refused))

pub returns-in_err-reply-clause-performs : goal.returns-in_err-reply-clause-performs
returns-in_err-reply-clause-performs g c =
    let p = err_from_is_err_and c.from_residual-in_err-reply.result c.from_residual-in_err-reply.ensures.1 in
    rw p.1 (unlisted_without_memory g.D.Disk.history c.args.namespace.now (dropped_of c.args.dropped.now) c.args.self.now c.catalogued.new.self c.in-Some.home
    (rw c.in-Some.is at c.in_ok-home.ensures.looks) p.0 p.2)

pub remove_indexes-requires-clause-sound : goal.remove_indexes-requires-clause-sound
remove_indexes-requires-clause-sound g c = c.in_ok-home.ensures.looks.reads.sound

pub remove_indexes-requires-clause-may : goal.remove_indexes-requires-clause-may
remove_indexes-requires-clause-may g c = may_be_left (dropped_of c.args.dropped.now) _ _ c.deref.ensures.value c.in_ok-check_dropped.ensures.may

pub remove_indexes-requires-clause-home : goal.remove_indexes-requires-clause-home
remove_indexes-requires-clause-home g c =
    unlisted_home g.D.Disk.history c.args.namespace.now (dropped_of c.args.dropped.now) c.args.self.now c.catalogued.new.self c.in-Some.home
    (rw c.in-Some.is at c.in_ok-home.ensures.looks)

pub returns-in_err-remove_indexes-clause-performs : goal.returns-in_err-remove_indexes-clause-performs
returns-in_err-remove_indexes-clause-performs g c =
    let p = err_from_is_err_and c.from_residual-in_err-remove_indexes.result c.from_residual-in_err-remove_indexes.ensures.1 in
    rw (p.1, p.2)
    (unlisted_undone g.D.Disk.history c.args.namespace.now (dropped_of c.args.dropped.now) c.args.self.now c.catalogued.new.self c.in-Some.home
    (rw c.in-Some.is at c.in_ok-home.ensures.looks)
    c.remove_indexes.new.self c.in_err-remove_indexes.field-0.0 c.in_err-remove_indexes.ensures.makes)

pub returns-in_err-remove_indexes-clause-has_changes : goal.returns-in_err-remove_indexes-clause-has_changes
returns-in_err-remove_indexes-clause-has_changes g c = λ k same. c.in_err-remove_indexes.ensures.makes.refused ∙ c.in_ok-home.ensures.looks.reads.changes

pub returns-clause-performs : goal.returns-clause-performs
returns-clause-performs g c =
    let home = c.in-Some.home in
    let many = ap (λ (n : ℕ). 1 + n) (c.len.ensures ∙ home.indexes.ok.0) in
    unlisted_done g.D.Disk.history c.args.namespace.now (dropped_of c.args.dropped.now) c.args.self.now c.catalogued.new.self home
    (rw c.in-Some.is at c.in_ok-home.ensures.looks)
    c.remove_indexes.new.self (1 + c.len.result) c.in_ok-reply.reply c.in_ok-reply.ensures many c.in_ok-remove_indexes.ensures.makes

pub returns-clause-has_changes : goal.returns-clause-has_changes
returns-clause-has_changes g c =
    let home = c.in-Some.home in
    let may = may_be_left (dropped_of c.args.dropped.now) _ home.indexes.items c.deref.ensures.value c.in_ok-check_dropped.ensures.may in
    unlisted_changes g.D.Disk.history c.args.namespace.now (dropped_of c.args.dropped.now) c.args.self.now c.catalogued.new.self home
    (rw c.in-Some.is at c.in_ok-home.ensures.looks)
    c.remove_indexes.new.self may c.in_ok-remove_indexes.ensures.makes c.in_ok-remove_indexes.ensures.has_changes

pub returns-clause-sendable : goal.returns-clause-sendable
returns-clause-sendable g c = subst IsSendable (sym c.in_ok-reply.ensures) (drop_indexes-sendable (1 + c.len.result))
