use Rattle.std.proofs.Common.{ap, subst, sym, ◌∙◌}
use Rattle.cursors.specs.EndingLaws.{others_to_table}
use Rattle.cursors.specs.Held.{cursors_of, table_of}
use Rattle.cursors.specs.declared.ending.Ends.TheVariants as cases
use Rattle.database_model.specs.World.{CursorTable, after_undo, are_untouched}
use Rattle.database_model.specs.Lawful.{AreLawfulCursors}
use Rattle.engine.proofs.UntouchedCursors.{untouched_untouched}
use Rattle.engine.specs.View.{world, world_of}
use Rattle.engine.proofs.Ending.{rested_again, sound_again}
use Rattle.engine.proofs.Sound.{undone_lawful}
use Rattle.engine.proofs.engine.Engine.undo_turn.Goals as goal

pub returns-clause-sound : goal.returns-clause-sound
returns-clause-sound g c =
    sound_again g.D.Disk.history c.args.self.now c.roll_back.new.self c.requires.sound c.roll_back.ensures.clean c.roll_back.ensures.world
    c.roll_back.ensures.turn_start c.roll_back.ensures.file.untouched c.roll_back.ensures.file.state c.roll_back.ensures.file.clean
    (c.roll_back.ensures.tied c.args.self.now.is_changed c.requires.sound.tied)

pub returns-clause-rested : goal.returns-clause-rested
returns-clause-rested g c =
    rested_again g.D.Disk.history c.args.self.now c.roll_back.new.self c.requires.sound c.roll_back.ensures.clean c.roll_back.ensures.world
    c.roll_back.ensures.turn_start c.roll_back.ensures.file.untouched c.roll_back.ensures.file.state c.roll_back.ensures.file.clean
    (c.roll_back.ensures.tied c.args.self.now.is_changed c.requires.sound.tied)

pub returns-then-not-self-clause-world : goal.returns-then-not-self-clause-world
returns-then-not-self-clause-world g c =
    let old = c.args.self.now in
    ap (world_of old.told.value) (ap table_of c.end_all.ensures.left ∙ others_to_table cases.Touched old.cursors)
    ∙ ap (λ cs. record (after_undo cs (world old)) { collections = cs }) (sym (c.requires.sound.quiet c.if-not-self.true))

pub returns-then-not-self-clause-sound : goal.returns-then-not-self-clause-sound
returns-then-not-self-clause-sound g c =
    let old = c.args.self.now in
    let h = c.requires.sound in
    let end = c.end_all in
    record {
      lawful = h.lawful;
      cursors = subst (λ (t : CursorTable). AreLawfulCursors t.list)
          (sym (ap table_of end.ensures.left ∙ others_to_table cases.Touched old.cursors)) (undone_lawful g.D.Disk.history old h).cursors;
      before = h.before;
      quiet = h.quiet;
      file = (end.ensures.releases old.is_changed).pins.state old.told.value.start old.told.value.now h.file;
      unchanged = λ running clean.
          (end.ensures.releases old.is_changed).pins.unchanged
          ∙ h.unchanged (sym (end.ensures.releases old.is_changed).pins.untouched.stopped ∙ running) clean;
      tied = (end.ensures.releases old.is_changed).tied h.tied;
    }

pub returns-then-not-self-clause-rested : goal.returns-then-not-self-clause-rested
returns-then-not-self-clause-rested g c =
    let old = c.args.self.now in
    ap (λ (t : CursorTable). are_untouched t.list) (ap table_of c.end_all.ensures.left ∙ others_to_table cases.Touched old.cursors)
    ∙ untouched_untouched (cursors_of old.cursors)
