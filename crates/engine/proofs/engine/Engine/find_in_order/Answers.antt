use Rattle.std.proofs.Common.{List, Some, sym, ap, subst, ◌∙◌}
use Rattle.std.proofs.lemmas.Result.{err_from_is_err_and}
use Rattle.command_model.specs.Find.{Find}
use Rattle.database_model.specs.Find.{run_find}
use Rattle.database_model.specs.World.{World}
use Rattle.entry_model.specs.State.{Collection}
use Rattle.pinned_cursors.specs.Opening.{that_keep}
use Rattle.engine.specs.TakingOut.{HasHome}
use Rattle.engine.specs.View.{world}
use Rattle.engine.proofs.CataloguedLemmas.{IsCatalogueOf, has_home}
use Rattle.engine.proofs.LookingLemmas.{alike_read, collections_same, may_behind, performs_memory, performs_refused, world_same}
use Rattle.engine.proofs.engine.Engine.find_in_order.Goals as goal

pub returns-in_err-home-clause-performs : goal.returns-in_err-home-clause-performs
returns-in_err-home-clause-performs g c =
    let old = c.args.self.now in
    let asked : Find = record { namespace = c.args.namespace.now; query = c.args.query.now; batch_size = Some c.args.most } in
    let p = err_from_is_err_and c.from_residual.result c.from_residual.ensures.1 in
    rw (p.1, p.2)
    (performs_refused g.D.Disk.history old c.catalogued.new.self (run_find (world old) c.args.connection asked) c.in_err-home.field-0.0
    c.in_err-home.ensures.looks.reads c.in_err-home.ensures.looks.answers)

-- there is no collection of that name
pub returns-in_default-clause-performs : goal.returns-in_default-clause-performs
returns-in_default-clause-performs g c = alike_read g.D.Disk.history c.args.self.now c.catalogued.new.self c.in_ok-home.ensures.looks.reads

pub returns-in_err-order-clause-performs : goal.returns-in_err-order-clause-performs
returns-in_err-order-clause-performs g c =
    let old = c.args.self.now in
    let asked : Find = record { namespace = c.args.namespace.now; query = c.args.query.now; batch_size = Some c.args.most } in
    let e = err_from_is_err_and c.from_residual-in_err-order.result c.from_residual-in_err-order.ensures.1 in
    rw e.1
    (performs_memory g.D.Disk.history old c.catalogued.new.self (run_find (world old) c.args.connection asked) e.0 e.2 c.in_ok-home.ensures.looks.reads)

pub give_in_order-requires-clause-home : goal.give_in_order-requires-clause-home
give_in_order-requires-clause-home g c = λ k.
    let old = c.args.self.now in
    let name = c.args.namespace.now in
    let first = c.in_ok-home.ensures.looks in
    subst (λ (cs : List Collection). HasHome cs name c.in-Some.home) (sym (collections_same g.D.Disk.history old c.catalogued.new.self first.reads))
    (has_home (world old).collections name c.in-Some.home
    (subst (IsCatalogueOf name (world old).collections) c.in-Some.is (first.answers k)))

pub returns-in-Some-order-clause-performs : goal.returns-in-Some-order-clause-performs
returns-in-Some-order-clause-performs g c =
    let history = g.D.Disk.history in
    let old = c.args.self.now in
    let mid = c.catalogued.new.self in
    let asked : Find = record { namespace = c.args.namespace.now; query = c.args.query.now; batch_size = Some c.args.most } in
    let reads = c.in_ok-home.ensures.looks.reads in
    may_behind history old mid c.give_in_order.new.self reads (run_find (world mid) c.args.connection asked) (run_find (world old) c.args.connection asked)
    c.give_in_order.result c.give_in_order.ensures.performs
    (λ k. ap (λ (w : World). run_find w c.args.connection asked) (world_same history old mid reads))

pub returns-clause-performs : goal.returns-clause-performs
returns-clause-performs g c = alike_read g.D.Disk.history c.args.self.now c.catalogued.new.self c.in_ok-home.ensures.looks.reads

-- ---- the cursors that keep documents

pub returns-in_err-home-clause-keep : goal.returns-in_err-home-clause-keep
returns-in_err-home-clause-keep g c = ap that_keep c.in_err-home.ensures.looks.reads.cursors

pub returns-in_default-clause-keep : goal.returns-in_default-clause-keep
returns-in_default-clause-keep g c = ap that_keep c.in_ok-home.ensures.looks.reads.cursors

pub returns-in_err-order-clause-keep : goal.returns-in_err-order-clause-keep
returns-in_err-order-clause-keep g c = ap that_keep c.in_ok-home.ensures.looks.reads.cursors

pub returns-in-Some-order-clause-keep : goal.returns-in-Some-order-clause-keep
returns-in-Some-order-clause-keep g c = c.give_in_order.ensures.keep ∙ ap that_keep c.in_ok-home.ensures.looks.reads.cursors

pub returns-clause-keep : goal.returns-clause-keep
returns-clause-keep g c = ap that_keep c.in_ok-home.ensures.looks.reads.cursors
