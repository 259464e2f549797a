use Rattle.std.proofs.Common.{List, Option, Some, inl, inr, refl, sym, subst, ◌∙◌}
use Rattle.std.specs.Prelude.{All}
use Rattle.bson.specs.Tree.{Pairs}
use Rattle.command_model.specs.Find.{Find}
use Rattle.database_model.specs.Find.{query_result, run_find}
use Rattle.database_model.specs.Lawful.{IsWithin}
use Rattle.database_model.specs.World.{documents_of}
use Rattle.pinned_cursors.specs.First.{GivesFirst, GivesNone, OrNone}
use Rattle.pinned_cursors.specs.Opening.{way_in_order}
use Rattle.statements.proofs.KeptLemmas.{stored_at}
use Rattle.engine.specs.View.{world}
use Rattle.engine.proofs.Finding.{found_within}
use Rattle.engine.proofs.FirstLemmas.{left_in_order, may_first, may_keep}
use Rattle.engine.proofs.LookingLemmas.{performs_refused, reads_nothing}
use Rattle.engine.proofs.engine.Engine.give_in_order.Goals as goal

pub returns-then-is_stopped-clause-performs : goal.returns-then-is_stopped-clause-performs
returns-then-is_stopped-clause-performs g c =
    let history = g.D.Disk.history in
    let old = c.args.self.now in
    let asked : Find = record { namespace = c.args.namespace.now; query = c.args.query.now; batch_size = Some c.args.most } in
    performs_refused history old old (run_find (world old) c.args.connection asked) _ (reads_nothing history old c.requires.sound)
    (λ k. inr (refl, inl (sym c.is_stopped.ensures ∙ c.if-is_stopped.true)))

pub give_first_in_order-requires-clause-within : goal.give_first_in_order-requires-clause-within
give_first_in_order-requires-clause-within g c =
    let old = c.args.self.now in
    let name = c.args.namespace.now in
    subst (λ (ds : List Pairs). All IsWithin ds) (sym c.all_asked-rest.ensures)
    (found_within c.args.query.now (documents_of (world old).collections name) (stored_at (world old).collections name c.requires.sound.lawful.kept).1)

pub returns-clause-performs : goal.returns-clause-performs
returns-clause-performs g c =
    let history = g.D.Disk.history in
    let old = c.args.self.now in
    let name = c.args.namespace.now in
    let q = c.args.query.now in
    let home = c.args.home.now in
    let walk = c.whole_order.result in
    let file = c.give_first_in_order.new.file in
    let held = c.give_first_in_order.new.cursors in
    let r = c.give_first_in_order.result in
    let running = sym c.is_stopped.ensures ∙ c.if-is_stopped.false in
    may_first history old c.requires.sound c.args.connection name q c.args.most file held home.number walk.projection.now (way_in_order walk)
    (λ k. left_in_order history old c.requires.sound c.args.connection name q c.args.most home c.args.order.now walk running k (c.requires.home k)
    c.requires.order c.whole_order.ensures) r
    (subst
    (λ (ds : List Pairs). OrNone (λ x. GivesFirst history c.args.connection name home.number walk.projection.now (way_in_order walk) ds c.args.most x
    old.file file old.cursors held) (GivesNone history old.file file old.cursors held) r)
    c.all_asked-rest.ensures c.give_first_in_order.ensures.gives)
    c.give_first_in_order.ensures.lawful

-- ---- the cursors that keep documents

pub returns-clause-keep : goal.returns-clause-keep
returns-clause-keep g c =
    let history = g.D.Disk.history in
    let old = c.args.self.now in
    let name = c.args.namespace.now in
    let q = c.args.query.now in
    let home = c.args.home.now in
    let walk = c.whole_order.result in
    let file = c.give_first_in_order.new.file in
    let held = c.give_first_in_order.new.cursors in
    let r = c.give_first_in_order.result in
    let running = sym c.is_stopped.ensures ∙ c.if-is_stopped.false in
    may_keep history old c.requires.sound c.args.connection name q c.args.most file held home.number walk.projection.now (way_in_order walk)
    (λ k. left_in_order history old c.requires.sound c.args.connection name q c.args.most home c.args.order.now walk running k (c.requires.home k)
    c.requires.order c.whole_order.ensures) r
    (subst
    (λ (ds : List Pairs). OrNone (λ x. GivesFirst history c.args.connection name home.number walk.projection.now (way_in_order walk) ds c.args.most x
    old.file file old.cursors held) (GivesNone history old.file file old.cursors held) r)
    c.all_asked-rest.ensures c.give_first_in_order.ensures.gives)
