use Rattle.std.proofs.Common.{refl, sym, ◌∙◌, arith}
use Rattle.std.proofs.lemmas.List.{length-map}
use Rattle.std.proofs.lemmas.List.Quantifiers.{position-Some}
use Rattle.command_model.specs.GetMore.{GetMore}
use Rattle.cursors.specs.Held.{HeldCursor, cursors_of}
use Rattle.database_model.specs.Cursors.{is_cursor, no_cursor}
use Rattle.database_model.specs.GetMore.{run_get_more}
use Rattle.pinned_cursors.proofs.EndingLemmas.{releases_none}
use Rattle.engine.specs.View.{world}
use Rattle.engine.proofs.MoreLemmas.{performs_next}
use Rattle.engine.proofs.Running.{run_get_more-none}
use Rattle.engine.proofs.Sound.{lawful_world, performs_in_memory}
use Rattle.engine.proofs.engine.Engine.get_more.Goals as goal

pub returns-in_default-clause-performs : goal.returns-in_default-clause-performs
returns-in_default-clause-performs g c =
    let history = g.D.Disk.history in
    let old = c.args.self.now in
    let asked : GetMore = record { id = c.args.id.now; namespace = c.args.namespace.now; batch_size = c.args.most } in
    performs_in_memory history old old (run_get_more (world old) c.args.connection asked) _ c.requires.sound
    (releases_none history old.is_changed old.file old.cursors)
    refl refl (lawful_world history old c.requires.sound)
    (refl, λ _. run_get_more-none (world old) c.args.connection asked (sym c.place_of.ensures ∙ c.in_default.is))

pub give_next-requires-clause-there : goal.give_next-requires-clause-there
give_next-requires-clause-there g c =
    let old = c.args.self.now in
    let is = sym c.place_of.ensures ∙ c.in-Some.is in
    let there = (position-Some (is_cursor c.args.connection c.args.namespace.now c.args.id.now) (cursors_of old.cursors) c.in-Some.at no_cursor is).0 in
    omega (arith, there, length-map old.cursors.list (λ (h : HeldCursor). h.cursor))

pub returns-clause-performs : goal.returns-clause-performs
returns-clause-performs g c =
    let asked : GetMore = record { id = c.args.id.now; namespace = c.args.namespace.now; batch_size = c.args.most } in
    performs_next g.D.Disk.history c.args.self.now c.requires.sound c.args.connection asked c.in-Some.at (sym c.place_of.ensures ∙ c.in-Some.is)
    c.give_next.new.file c.give_next.new.cursors c.give_next.result c.give_next.ensures.gives c.give_next.ensures.lawful
