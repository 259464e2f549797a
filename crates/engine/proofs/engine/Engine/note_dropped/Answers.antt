use Rattle.std.proofs.Common.{sym, ap, ◌∙◌}
use Rattle.std.specs.List.{position}
use Rattle.std.proofs.lemmas.Result.{err_from_is_err_and}
use Rattle.commands.specs.View.{dropped_of}
use Rattle.database_model.specs.DropIndexes.{is_dropped}
use Rattle.engine.proofs.DroppingIndexes.{drops_all, drops_none, drops_on, drops_refused}
use Rattle.engine.proofs.engine.Engine.note_dropped.Goals as goal

pub indexes-init : goal.indexes-init
indexes-init g c =
    drops_none g.D.Disk.history c.args.namespace.now (dropped_of c.args.dropped.now) c.args.home.now c.args.edits.now c.args.self.now
    c.requires.sound c.requires.limits

pub indexes-preserved : goal.indexes-preserved
indexes-preserved g c =
    let away = dropped_of c.args.dropped.now in
    drops_on g.D.Disk.history c.args.namespace.now away c.args.home.now c.args.edits.now c.args.self.now c.indexes.self c.note_dropped_at.new.self
    c.indexes.home c.note_dropped_at.new.home
    c.indexes.edits c.note_dropped_at.new.edits c.indexes.invariant c.in-Some.at
    (ap (position (is_dropped away)) (sym c.deref.ensures.value) ∙ sym c.first_dropped.ensures ∙ c.in-Some.is)
    c.in_ok-note_dropped_at.ensures.notes c.in_ok-note_dropped_at.ensures.limits

pub returns-in_err-note_dropped_at : goal.returns-in_err-note_dropped_at
returns-in_err-note_dropped_at g c =
    let p = err_from_is_err_and c.from_residual.result c.from_residual.ensures.1 in
    rw (p.1, p.2) (record {
      notes = drops_refused g.D.Disk.history c.args.namespace.now
          (dropped_of c.args.dropped.now) c.args.home.now c.args.edits.now c.args.self.now c.indexes.self c.note_dropped_at.new.self
          c.indexes.home c.note_dropped_at.new.home c.indexes.edits c.note_dropped_at.new.edits c.indexes.invariant c.in-Some.at
          c.in_err-note_dropped_at.field-0.0 c.in_err-note_dropped_at.ensures.notes;
    })

pub returns : goal.returns
returns g c =
    let away = dropped_of c.args.dropped.now in
    record {
      notes = drops_all g.D.Disk.history c.args.namespace.now away c.args.home.now c.args.edits.now c.args.self.now c.indexes.self c.indexes.home
          c.indexes.edits
          (ap (position (is_dropped away)) (sym c.deref.ensures.value) ∙ sym c.first_dropped.ensures ∙ c.in_default.is) c.indexes.invariant;
    }
