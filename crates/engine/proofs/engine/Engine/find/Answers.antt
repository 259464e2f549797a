use Rattle.std.proofs.Common.{Option, Some, None, Ok, ap, subst, ◌∙◌}
use Rattle.std.proofs.lemmas.Result.{err_from_is_err_and}
use Rattle.bson.specs.Tree.{Pairs}
use Rattle.command_model.specs.Find.{Find}
use Rattle.database_model.specs.Find.{run_find}
use Rattle.database_model.specs.World.{World}
use Rattle.engine.specs.Performing.{MayPerform}
use Rattle.engine.specs.View.{world}
use Rattle.engine.proofs.LookingLemmas.{performs_after, world_alike}
use Rattle.engine.proofs.engine.Engine.find.Goals as goal

pub returns-in_err-found-clause-performs : goal.returns-in_err-found-clause-performs
returns-in_err-found-clause-performs g c =
    let e = err_from_is_err_and c.from_residual.result c.from_residual.ensures.1 in
    rw (e.1, e.2) c.in_err-found.ensures.performs

pub returns-in-Some-clause-performs : goal.returns-in-Some-clause-performs
returns-in-Some-clause-performs g c =
    let old = c.args.self.now in
    let asked : Find = record { namespace = c.args.namespace.now; query = c.args.query.now; batch_size = Some c.args.most } in
    subst (λ (o : Option Pairs). MayPerform g.D.Disk.history (run_find (world old) c.args.connection asked) (Ok o) old c.find_in_order.new.self)
    c.in-Some.is c.in_ok-found.ensures.performs

-- no index led to it soon
pub find_sorted-requires-clause-sound : goal.find_sorted-requires-clause-sound
find_sorted-requires-clause-sound g c =
    let old = c.args.self.now in
    let asked : Find = record { namespace = c.args.namespace.now; query = c.args.query.now; batch_size = Some c.args.most } in
    let alike = subst
    (λ (o : Option Pairs). MayPerform g.D.Disk.history (run_find (world old) c.args.connection asked) (Ok o) old c.find_in_order.new.self)
    c.in-None.is c.in_ok-found.ensures.performs in
    alike.sound

pub returns-in-None-clause-performs : goal.returns-in-None-clause-performs
returns-in-None-clause-performs g c =
    let history = g.D.Disk.history in
    let old = c.args.self.now in
    let mid = c.find_in_order.new.self in
    let new = c.find_sorted.new.self in
    let asked : Find = record { namespace = c.args.namespace.now; query = c.args.query.now; batch_size = Some c.args.most } in
    let alike = subst (λ (o : Option Pairs). MayPerform history (run_find (world old) c.args.connection asked) (Ok o) old mid)
    c.in-None.is c.in_ok-found.ensures.performs in
    let there = run_find (world mid) c.args.connection asked in
    let planned = run_find (world old) c.args.connection asked in
    performs_after history old mid new alike there planned c.find_sorted.result c.find_sorted.ensures.performs
    (λ k. ap (λ (w : World). run_find w c.args.connection asked) (world_alike history old mid new alike there planned))

-- ---- the cursors that keep documents

pub returns-in-None-clause-keep : goal.returns-in-None-clause-keep
returns-in-None-clause-keep g c = c.find_sorted.ensures.keep ∙ c.in_ok-found.ensures.keep
