use Rattle.std.proofs.Common.{refl, ◌∙◌}
use Rattle.std.proofs.lemmas.Result.{err_from_is_err_and}
use Rattle.engine.proofs.CreatingIndexes.{plan_made, plan_refused, plan_untargeted}
use Rattle.engine.proofs.engine.Engine.planned_indexes.Goals as goal

pub returns-in_err-home-clause-tries : goal.returns-in_err-home-clause-tries
returns-in_err-home-clause-tries g c =
    let p = err_from_is_err_and c.from_residual-in_err-home.result c.from_residual-in_err-home.ensures.1 in
    rw (p.1, p.2)
    (plan_untargeted g.D.Disk.history c.args.namespace.now c.args.indexes.now c.args.self.now c.number_of.new.self c.in_ok-number_of.field-0
    c.in_ok-number_of.ensures c.target.new.self
    c.target.new.edits c.in_err-home.field-0.0 c.in_err-home.ensures.tries)

pub returns-in_err-note_indexes-clause-tries : goal.returns-in_err-note_indexes-clause-tries
returns-in_err-note_indexes-clause-tries g c =
    let p = err_from_is_err_and c.from_residual-in_err-note_indexes.result c.from_residual-in_err-note_indexes.ensures.1 in
    rw (p.1, p.2)
    (plan_refused g.D.Disk.history c.args.namespace.now c.args.indexes.now c.args.self.now c.number_of.new.self c.in_ok-number_of.field-0
    c.in_ok-number_of.ensures c.target.new.self
    c.target.new.edits c.in_ok-home.home c.in_ok-home.ensures.tries c.note_indexes.new.self c.note_indexes.new.home c.note_indexes.new.edits
    c.in_err-note_indexes.field-0.0 c.in_err-note_indexes.ensures.notes)

pub returns-clause-tries : goal.returns-clause-tries
returns-clause-tries g c =
    plan_made g.D.Disk.history c.args.namespace.now c.args.indexes.now c.args.self.now c.number_of.new.self c.in_ok-number_of.field-0 c.in_ok-number_of.ensures
    c.target.new.self
    c.target.new.edits c.in_ok-home.home c.in_ok-home.ensures.tries c.note_indexes.new.self c.note_indexes.new.home c.note_indexes.new.edits
    c.in_ok-note_indexes.ensures.notes
    (record { edits = c.note_indexes.new.edits; before = c.len-before.result; after = c.len.result; is_new = c.is_none-is_new.result })
    refl (c.len-before.ensures ∙ c.in_ok-home.home.indexes.ok.0) (c.len.ensures ∙ c.note_indexes.new.home.indexes.ok.0) c.is_none-is_new.ensures
