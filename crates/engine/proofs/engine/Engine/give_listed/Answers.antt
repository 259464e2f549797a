use Rattle.std.proofs.Common.{◌≡◌, List, map, refl, sym, ap, subst, ◌∙◌}
use Rattle.std.specs.Prelude.{All}
use Rattle.bson.specs.Tree.{Pairs}
use Rattle.projection.specs.Projection.{project}
use Rattle.command_model.specs.Find.{Query}
use Rattle.database_model.specs.Cursors.{batch_of, first_batch}
use Rattle.database_model.specs.Find.{given, window}
use Rattle.database_model.specs.Lawful.{IsWithin}
use Rattle.replies.specs.View.{projected, Runs}
use Rattle.engine.specs.View.{world}
use Rattle.engine.specs.Walking.{AreOf}
use Rattle.engine.proofs.Finding.{given_within_limits}
use Rattle.engine.proofs.KeepingPins.{pins_as_before}
use Rattle.engine.proofs.WalkingLemmas.{window_of}
use Rattle.engine.proofs.engine.Engine.give_listed.Goals as goal

pub give_by_list-requires-clause-within : goal.give_by_list-requires-clause-within
give_by_list-requires-clause-within g c =
    let q = c.args.query.now in
    let ds = c.args.found.items in
    let gs = projected c.query.inside.projection c.in_ok-asked.asked.items in
    let found : gs ≡ given q ds =
    ap (map (project c.query.inside.projection)) c.in_ok-asked.ensures
    ∙ ap (λ (x : Query). map (project x.projection) (window x.skip x.limit ds)) c.query.view_is in
    subst (λ (es : List Pairs). All IsWithin es) (sym found) (given_within_limits q ds c.requires.within)

pub returns-clause-runs : goal.returns-clause-runs
returns-clause-runs g c =
    let q = c.args.query.now in
    let ds = c.args.found.items in
    let w = world c.args.self.now in
    let gs = projected c.query.inside.projection c.in_ok-asked.asked.items in
    let found : gs ≡ given q ds =
    ap (map (project c.query.inside.projection)) c.in_ok-asked.ensures
    ∙ ap (λ (x : Query). map (project x.projection) (window x.skip x.limit ds)) c.query.view_is in
    subst (λ (es : List Pairs). Runs w (first_batch w c.args.connection c.args.namespace.now es (batch_of c.args.most es))
    (world c.give_by_list.new.self) c.give_by_list.result) found c.give_by_list.ensures.runs

pub returns-in_err-asked-clause-file : goal.returns-in_err-asked-clause-file
returns-in_err-asked-clause-file g c =
    pins_as_before c.args.self.now.is_changed g.D.Disk.history c.args.self.now.file c.args.self.now.cursors c.args.self.now.cursors refl

pub give_by_list-requires-clause-there : goal.give_by_list-requires-clause-there
give_by_list-requires-clause-there g c = λ k.
    let q = c.args.query.now in
    let now = (world c.args.self.now).collections in
    let h = c.requires.there k in
    subst (λ (ds : List Pairs). AreOf now c.args.namespace.now c.args.home.now ds)
    (sym (c.in_ok-asked.ensures ∙ ap (λ (x : Query). window x.skip x.limit c.args.found.items) c.query.view_is))
    (window_of now c.args.namespace.now c.args.home.now q.skip q.limit c.args.found.items h)
