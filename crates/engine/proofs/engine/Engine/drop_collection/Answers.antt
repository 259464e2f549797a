use Rattle.std.proofs.Common.{ℕ, ◌+◌, Ok, sym, subst, ap, ◌∙◌}
use Rattle.std.proofs.lemmas.Result.{err_from_is_err_and}
use Rattle.database_model.specs.DropCollection.{run_drop}
use Rattle.replies.specs.View.{IsSendable}
use Rattle.engine.specs.View.{world}
use Rattle.engine.proofs.Creating.{dropped_differs}
use Rattle.engine.proofs.DroppingLemmas.{drop_behind, drop_done, drop_home, drop_missing, drop_undone}
use Rattle.engine.proofs.LookingLemmas.{performs_memory, performs_refused}
use Rattle.replies.proofs.SpelledSizes.{drop-sendable}
use Rattle.engine.proofs.engine.Engine.drop_collection.Goals as goal

pub returns-in_err-home-clause-performs : goal.returns-in_err-home-clause-performs
returns-in_err-home-clause-performs g c =
    let p = err_from_is_err_and c.from_residual.result c.from_residual.ensures.1 in
    let old = c.args.self.now in
    rw (p.1, p.2)
    (performs_refused g.D.Disk.history old c.catalogued.new.self
    (run_drop (world old) (record { namespace = c.args.namespace.now })) c.in_err-home.field-0.0 c.in_err-home.ensures.looks.reads
    c.in_err-home.ensures.looks.answers).performs

pub returns-in_default-clause-performs : goal.returns-in_default-clause-performs
returns-in_default-clause-performs g c =
    drop_missing g.D.Disk.history c.args.namespace.now c.args.self.now c.catalogued.new.self (rw c.in_default.is at c.in_ok-home.ensures.looks)

pub returns-in_err-reply-clause-performs : goal.returns-in_err-reply-clause-performs
returns-in_err-reply-clause-performs g c =
    let p = err_from_is_err_and c.from_residual-in_err-reply.result c.from_residual-in_err-reply.ensures.1 in
    let old = c.args.self.now in
    rw p.1 (performs_memory g.D.Disk.history old c.catalogued.new.self
    (run_drop (world old) (record { namespace = c.args.namespace.now })) p.0 p.2 c.in_ok-home.ensures.looks.reads).performs

pub remove_collection-requires-clause-sound : goal.remove_collection-requires-clause-sound
remove_collection-requires-clause-sound g c = c.in_ok-home.ensures.looks.reads.sound

pub remove_collection-requires-clause-home : goal.remove_collection-requires-clause-home
remove_collection-requires-clause-home g c =
    drop_home g.D.Disk.history c.args.namespace.now c.args.self.now c.catalogued.new.self c.in-Some.home (rw c.in-Some.is at c.in_ok-home.ensures.looks)

pub returns-in_err-remove_collection-clause-performs : goal.returns-in_err-remove_collection-clause-performs
returns-in_err-remove_collection-clause-performs g c =
    let p = err_from_is_err_and c.from_residual-in_err-remove_collection.result c.from_residual-in_err-remove_collection.ensures.1 in
    rw (p.1, p.2)
    (drop_undone g.D.Disk.history c.args.namespace.now c.args.self.now c.catalogued.new.self c.in-Some.home
    (rw c.in-Some.is at c.in_ok-home.ensures.looks) c.remove_collection.new.self
    c.in_err-remove_collection.field-0.0 c.in_err-remove_collection.ensures)

pub returns-in_err-remove_collection-clause-has_changes : goal.returns-in_err-remove_collection-clause-has_changes
returns-in_err-remove_collection-clause-has_changes g c = λ k same. c.in_err-remove_collection.ensures.refused ∙ c.in_ok-home.ensures.looks.reads.changes

pub returns-clause-performs : goal.returns-clause-performs
returns-clause-performs g c =
    let home = c.in-Some.home in
    let many = ap (λ (n : ℕ). 1 + n) (c.len.ensures ∙ home.indexes.ok.0) in
    drop_done g.D.Disk.history c.args.namespace.now c.args.self.now c.catalogued.new.self home
    (rw c.in-Some.is at c.in_ok-home.ensures.looks) c.remove_collection.new.self
    (1 + c.len.result) c.in_ok-reply.reply c.in_ok-reply.ensures many c.in_ok-remove_collection.ensures

pub returns-clause-has_changes : goal.returns-clause-has_changes
returns-clause-has_changes g c = λ k same.
    let makes = drop_behind g.D.Disk.history c.args.namespace.now c.args.self.now c.catalogued.new.self c.in-Some.home
    (rw c.in-Some.is at c.in_ok-home.ensures.looks) c.remove_collection.new.self (Ok tt) c.in_ok-remove_collection.ensures in
    absurd (dropped_differs (world c.args.self.now).collections c.args.namespace.now (world c.remove_collection.new.self).collections (makes.as_planned k) same)

pub returns-clause-sendable : goal.returns-clause-sendable
returns-clause-sendable g c = subst IsSendable (sym c.in_ok-reply.ensures) (drop-sendable (1 + c.len.result) c.args.namespace.now c.requires.short)
