use Rattle.std.proofs.Common.{sym, subst}
use Rattle.std.proofs.lemmas.Result.{err_from_is_err_and}
use Rattle.bson.specs.Tree.{no_pairs}
use Rattle.database_model.specs.Create.{created, run_create}
use Rattle.replies.specs.View.{IsSendable}
use Rattle.engine.specs.View.{world}
use Rattle.engine.proofs.Creating.{created_differs}
use Rattle.engine.proofs.MakingLemmas.{performs_done, performs_none, performs_refused}
use Rattle.engine.proofs.PlannedLemmas.{run_creates}
use Rattle.replies.proofs.SpelledSizes.{ping-sendable}
use Rattle.engine.proofs.engine.Engine.create.Goals as goal

pub returns-in_err-reply-clause-performs : goal.returns-in_err-reply-clause-performs
returns-in_err-reply-clause-performs g c =
    let p = err_from_is_err_and c.from_residual.result c.from_residual.ensures.1 in
    let w = world c.args.self.now in
    let name = c.args.namespace.now in
    rw (p.1, p.2)
    (performs_none g.D.Disk.history no_pairs (created w.collections name)
    (run_create w (record { namespace = name })) c.args.self.now c.args.self.now c.requires.sound)

pub returns-in_err-make_collection-clause-performs : goal.returns-in_err-make_collection-clause-performs
returns-in_err-make_collection-clause-performs g c =
    let p = err_from_is_err_and c.from_residual-in_err-make_collection.result c.from_residual-in_err-make_collection.ensures.1 in
    let w = world c.args.self.now in
    let name = c.args.namespace.now in
    rw (p.1, p.2)
    (performs_refused g.D.Disk.history no_pairs (created w.collections name)
    (run_create w (record { namespace = name })) c.args.self.now c.make_collection.new.self
    (run_creates w name) c.in_err-make_collection.field-0.0 c.in_err-make_collection.ensures)

pub returns-clause-performs : goal.returns-clause-performs
returns-clause-performs g c =
    let w = world c.args.self.now in
    let name = c.args.namespace.now in
    performs_done g.D.Disk.history no_pairs (created w.collections name) (run_create w (record { namespace = name })) c.args.self.now c.make_collection.new.self
    (run_creates w name) c.in_ok-reply.reply c.in_ok-reply.ensures c.in_ok-make_collection.ensures

pub returns-clause-has_changes : goal.returns-clause-has_changes
returns-clause-has_changes g c = λ k same.
    absurd (created_differs (world c.args.self.now).collections c.args.namespace.now (world c.make_collection.new.self).collections
    (c.in_ok-make_collection.ensures.as_planned k) same)

pub returns-clause-sendable : goal.returns-clause-sendable
returns-clause-sendable g c = subst IsSendable (sym c.in_ok-reply.ensures) ping-sendable
