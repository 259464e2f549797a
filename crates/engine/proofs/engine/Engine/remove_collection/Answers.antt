use Rattle.std.proofs.Common.{rules}
use Rattle.std.proofs.lemmas.Result.{err_from_is_err_and}
use Rattle.engine.specs.View.{world}
use Rattle.engine.proofs.Creating.{dropped_planned_lawful}
use Rattle.engine.proofs.DroppingLemmas.{drop_leads, drop_refused, drop_without_memory, drop_written}
use Rattle.engine.proofs.engine.Engine.remove_collection.Goals as goal

pub returns-in_err-note_emptied : goal.returns-in_err-note_emptied
returns-in_err-note_emptied g c =
    let p = err_from_is_err_and c.from_residual.result c.from_residual.ensures.1 in
    rw (p.1, p.2)
    (drop_refused g.D.Disk.history c.args.namespace.now c.args.home.now c.args.self.now c.requires.sound c.requires.home c.note_emptied.new.self
    c.new-edits.result c.note_emptied.new.edits c.new-edits.ensures
    c.in_err-note_emptied.field-0.0 c.in_err-note_emptied.ensures)

pub returns-in_err-remove_collection : goal.returns-in_err-remove_collection
returns-in_err-remove_collection g c =
    let p = err_from_is_err_and c.from_residual-in_err-remove_collection.result c.from_residual-in_err-remove_collection.ensures.1 in
    rw (p.1, p.2)
    (drop_without_memory g.D.Disk.history c.args.namespace.now c.args.home.now c.args.self.now c.requires.sound c.requires.home c.note_emptied.new.self
    c.new-edits.result c.note_emptied.new.edits c.new-edits.ensures
    c.in_ok-note_emptied.ensures)

pub write-requires : goal.write-requires
write-requires g c κs within =
    let sound = c.in_ok-note_emptied.ensures.reads.sound in
    let now = (world c.note_emptied.new.self).collections in
    let name = c.args.namespace.now in (
      search rules,
      (
        search rules,
        (
          sound,
          (
            dropped_planned_lawful now name sound.lawful,
            drop_leads g.D.Disk.history name c.args.home.now c.args.self.now c.requires.sound c.requires.home c.note_emptied.new.self c.new-edits.result
                c.note_emptied.new.edits c.new-edits.ensures
                c.in_ok-note_emptied.ensures c.remove_collection.new.self c.in_ok-remove_collection.ensures.leads,
          ),
        ),
      ),
    )

pub returns : goal.returns
returns g c =
    drop_written g.D.Disk.history c.args.namespace.now c.args.home.now c.args.self.now c.requires.sound c.requires.home c.note_emptied.new.self
    c.new-edits.result c.note_emptied.new.edits c.new-edits.ensures
    c.in_ok-note_emptied.ensures c.write.result c.write.new.self c.write.ensures
