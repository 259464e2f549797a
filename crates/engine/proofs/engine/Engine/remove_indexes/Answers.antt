use Rattle.std.proofs.Common.{rules, sym, ap, ◌∙◌}
use Rattle.std.specs.Prelude.{not}
use Rattle.std.specs.List.{position}
use Rattle.std.proofs.lemmas.Result.{err_from_is_err_and}
use Rattle.commands.specs.View.{dropped_of}
use Rattle.database_model.specs.DropIndexes.{is_dropped}
use Rattle.engine.specs.View.{world}
use Rattle.engine.proofs.DroppingIndexes.{removes_leads, removes_none, removes_refused, removes_written, no_place, some_go, some_place}
use Rattle.engine.proofs.PlannedLemmas.{index_dropped_planned}
use Rattle.engine.proofs.engine.Engine.remove_indexes.Goals as goal

pub returns-then-is_none-clause-makes : goal.returns-then-is_none-clause-makes
returns-then-is_none-clause-makes g c =
    let away = dropped_of c.args.dropped.now in
    removes_none g.D.Disk.history c.args.namespace.now away c.args.home c.args.self.now c.requires.sound c.requires.may c.requires.home
    (ap (position (is_dropped away)) (sym c.deref.ensures.value) ∙ sym c.first_dropped.ensures
    ∙ no_place c.first_dropped.result (c.is_none.ensures ∙ ap not c.if-is_none.true))

pub returns-in_err-note_dropped-clause-makes : goal.returns-in_err-note_dropped-clause-makes
returns-in_err-note_dropped-clause-makes g c =
    let p = err_from_is_err_and c.from_residual.result c.from_residual.ensures.1 in
    rw (p.1, p.2)
    (removes_refused g.D.Disk.history c.args.namespace.now
    (dropped_of c.args.dropped.now) c.args.home c.args.self.now c.requires.sound c.requires.may c.requires.home
    c.note_dropped.new.self c.new-edits.result c.new-edits.ensures c.note_dropped.new.home c.note_dropped.new.edits c.in_err-note_dropped.field-0.0
    c.in_err-note_dropped.ensures.notes)

pub returns-in_err-note_dropped-clause-has_changes : goal.returns-in_err-note_dropped-clause-has_changes
returns-in_err-note_dropped-clause-has_changes g c = λ long. c.in_err-note_dropped.ensures.notes.reads.changes

pub write-requires : goal.write-requires
write-requires g c κs within =
    let away = dropped_of c.args.dropped.now in
    let sound = c.in_ok-note_dropped.ensures.notes.reads.sound in
    let now = (world c.note_dropped.new.self).collections in (
      search rules depth 12,
      (
        search rules depth 12,
        (
          sound,
          (
            index_dropped_planned now c.args.namespace.now away sound.lawful c.requires.short,
            removes_leads g.D.Disk.history c.args.namespace.now away c.args.home c.args.self.now c.requires.sound c.requires.may c.requires.home
                c.note_dropped.new.self c.new-edits.result c.new-edits.ensures c.note_dropped.new.home c.note_dropped.new.edits
                c.in_ok-note_dropped.ensures.notes,
          ),
        ),
      ),
    )

pub returns-clause-makes : goal.returns-clause-makes
returns-clause-makes g c =
    removes_written g.D.Disk.history c.args.namespace.now
    (dropped_of c.args.dropped.now) c.args.home c.args.self.now c.requires.sound c.requires.may c.requires.home
    c.note_dropped.new.self c.new-edits.result c.new-edits.ensures c.note_dropped.new.home c.note_dropped.new.edits c.in_ok-note_dropped.ensures.notes
    c.write.result c.write.new.self c.write.ensures

pub returns-clause-has_changes : goal.returns-clause-has_changes
returns-clause-has_changes g c = λ long.
    let away = dropped_of c.args.dropped.now in
    let t = some_place c.first_dropped.result (c.is_none.ensures ∙ ap not c.if-is_none.false) in
    some_go away c.args.home.indexes.items t.0 (ap (position (is_dropped away)) (sym c.deref.ensures.value) ∙ sym c.first_dropped.ensures ∙ t.1) long
