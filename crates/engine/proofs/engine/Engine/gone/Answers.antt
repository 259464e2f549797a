use Rattle.std.proofs.Common.{◌≡◌, true, refl, sym, ap, subst, ◌∙◌}
use Rattle.std.specs.Prelude.{◌==◌, not}
use Rattle.cursors.specs.EndingLaws.{others_to_table}
use Rattle.cursors.specs.Held.{cursors_of, table_of}
use Rattle.cursors.specs.declared.ending.Ends.TheVariants as cases
use Rattle.database_model.specs.World.{Cursor, CursorTable, are_untouched}
use Rattle.engine.proofs.UntouchedCursors.{filter_untouched}
use Rattle.database_model.specs.Lawful.{IsLawful}
use Rattle.engine.specs.View.{world_of}
use Rattle.engine.specs.declared.engine.Engine.{Engine}
use Rattle.engine.proofs.Sound.{keeps_sound, forgotten_lawful}
use Rattle.engine.proofs.engine.Engine.gone.Goals as goal

pub returns-clause-world : goal.returns-clause-world
returns-clause-world g c =
    let old = c.args.self.now in
    ap (world_of old.told.value) (ap table_of c.end_all.ensures.left ∙ others_to_table (cases.Of c.args.connection) old.cursors)

pub returns-clause-sound : goal.returns-clause-sound
returns-clause-sound g c =
    let old = c.args.self.now in
    let h = c.requires.sound in
    let end = c.end_all in
    let new : Engine g.row.D.Denot =
    record { alloc = old.alloc; cursors = end.new.cursors; file = end.new.file; told = old.told; is_changed = old.is_changed } in
    let releases = end.ensures.releases old.is_changed in
    let pins = releases.pins in
    keeps_sound g.D.Disk.history old new h (pins.state old.told.value.start old.told.value.now h.file) (releases.tied h.tied) refl
    (subst (λ (t : CursorTable). IsLawful (world_of old.told.value t))
    (sym (ap table_of end.ensures.left ∙ others_to_table (cases.Of c.args.connection) old.cursors))
    (forgotten_lawful g.D.Disk.history old c.args.connection h))
    h.quiet (λ running clean. pins.unchanged ∙ h.unchanged (sym pins.untouched.stopped ∙ running) clean)

pub returns-clause-rested : goal.returns-clause-rested
returns-clause-rested g c = λ clean.
    let old = c.args.self.now in
    subst (λ (t : CursorTable). are_untouched t.list ≡ true)
    (sym (ap table_of c.end_all.ensures.left ∙ others_to_table (cases.Of c.args.connection) old.cursors))
    (filter_untouched (λ (x : Cursor). not (x.connection == c.args.connection)) (cursors_of old.cursors) clean)
