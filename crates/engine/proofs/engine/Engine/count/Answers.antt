use Rattle.std.proofs.Common.{Ok, ap, sym, subst, ◌∙◌, min, ◌^◌, ◌-◌}
use Rattle.std.proofs.lemmas.Result.{err_from_is_err_and}
use Rattle.command_model.specs.Count.{Count}
use Rattle.database_model.specs.Count.{run_count}
use Rattle.database_model.specs.Find.{matching}
use Rattle.replies.specs.View.{with_ok, IsSendable}
use Rattle.engine.specs.View.{world}
use Rattle.database_model.specs.World.{documents_of}
use Rattle.engine.proofs.LookingLemmas.{performs_memory, performs_read, performs_refused, world_same}
use Rattle.engine.proofs.Running.{run_count-is}
use Rattle.replies.proofs.SpelledSizes.{insert-sendable}
use Rattle.engine.proofs.engine.Engine.count.Goals as goal

pub returns-in_err-count-clause-performs : goal.returns-in_err-count-clause-performs
returns-in_err-count-clause-performs g c =
    let w = world c.args.self.now in
    let asked : Count = record { namespace = c.args.namespace.now; filter = c.args.filter.now; skip = c.args.skip; limit = c.args.limit } in
    let p = err_from_is_err_and c.from_residual.result c.from_residual.ensures.1 in
    rw (p.1, p.2)
    (performs_refused g.D.Disk.history c.args.self.now c.count_of.new.self
    (run_count w asked) c.in_err-count.field-0.0 c.in_err-count.ensures.reads c.in_err-count.ensures.answers)

pub returns-in_err-total_reply-clause-performs : goal.returns-in_err-total_reply-clause-performs
returns-in_err-total_reply-clause-performs g c =
    let w = world c.args.self.now in
    let asked : Count = record { namespace = c.args.namespace.now; filter = c.args.filter.now; skip = c.args.skip; limit = c.args.limit } in
    let p = err_from_is_err_and c.from_residual-in_err-total_reply.result c.from_residual-in_err-total_reply.ensures.1 in
    rw p.1 (performs_memory g.D.Disk.history c.args.self.now c.count_of.new.self (run_count w asked) p.0 p.2 c.in_ok-count.ensures.reads)

pub returns-clause-performs : goal.returns-clause-performs
returns-clause-performs g c =
    let history = g.D.Disk.history in
    let old = c.args.self.now in
    let new = c.count_of.new.self in
    let w = world old in
    let looks = c.in_ok-count.ensures in
    let asked : Count = record { namespace = c.args.namespace.now; filter = c.args.filter.now; skip = c.args.skip; limit = c.args.limit } in
    let found = matching c.args.filter.now (documents_of w.collections c.args.namespace.now) in
    performs_read history old new (run_count w asked) (Ok c.in_ok-total_reply.field-0) looks.reads (λ k.
    ap with_ok (run_count-is w asked c.within_window-number.result (c.within_window-number.ensures found (looks.answers k)))
    ∙ (λ i. Ok (sym (world_same history old new looks.reads) i, sym c.in_ok-total_reply.ensures i)))

pub returns-clause-sendable : goal.returns-clause-sendable
returns-clause-sendable g c = subst IsSendable (sym c.in_ok-total_reply.ensures) (insert-sendable (min c.within_window-number.result (2 ^ 31 - 1)))
