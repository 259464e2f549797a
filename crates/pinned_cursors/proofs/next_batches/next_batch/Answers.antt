use Rattle.std.proofs.Common.{sym, subst, ◌∙◌}
use Rattle.std.proofs.lemmas.Result.{err_from_is_err_and}
use Rattle.cursors.specs.Held.{Held, cursors_of, held_at}
use Rattle.database_model.specs.Lawful.{AreLawfulCursors}
use Rattle.pinned_cursors.proofs.LawfulLemmas.{lawful_gone_on, lawful_without}
use Rattle.pinned_cursors.proofs.NextLemmas.{gives_last, gives_more, gives_refused, gives_stopped, has_walk}
use Rattle.pinned_cursors.proofs.next_batches.next_batch.Goals as goal

pub returns-then-is_stopped-clause-gives : goal.returns-then-is_stopped-clause-gives
returns-then-is_stopped-clause-gives g c =
    gives_stopped g.D.Disk.history c.args.file.now c.args.cursors.now c.args.at c.args.namespace.now c.args.most
    (sym c.is_stopped.ensures ∙ c.if-is_stopped.true)

pub returns-in_err-batch-clause-gives : goal.returns-in_err-batch-clause-gives
returns-in_err-batch-clause-gives g c =
    let walk = has_walk (held_at c.args.cursors.now c.args.at).walk c.requires.pinned in
    let e = err_from_is_err_and c.from_residual.result c.from_residual.ensures.1 in
    rw (e.1, e.2)
    (gives_refused g.D.Disk.history c.args.file.now c.read_at.new.file c.args.cursors.now c.args.at c.requires.there walk.0 walk.1 c.args.namespace.now
    c.args.most c.unwrap_or-bound.result c.unwrap_or-bound.ensures c.in_err-batch.field-0.0 (sym c.is_stopped.ensures ∙ c.if-is_stopped.false)
    c.in_err-batch.ensures.reads)

pub returns-in-Some-clause-gives : goal.returns-in-Some-clause-gives
returns-in-Some-clause-gives g c =
    let walk = has_walk (held_at c.args.cursors.now c.args.at).walk c.requires.pinned in
    gives_more g.D.Disk.history c.args.file.now c.read_at.new.file c.args.cursors.now c.args.at c.requires.there walk.0 walk.1 c.args.namespace.now
    c.args.most c.unwrap_or-bound.result c.unwrap_or-bound.ensures c.in_ok-batch.batch (sym c.is_stopped.ensures ∙ c.if-is_stopped.false)
    c.in_ok-batch.ensures.reads c.in-Some.from c.in-Some.is c.go_on.new.self c.go_on.ensures

pub returns-in-None-clause-gives : goal.returns-in-None-clause-gives
returns-in-None-clause-gives g c =
    let walk = has_walk (held_at c.args.cursors.now c.args.at).walk c.requires.pinned in
    gives_last g.D.Disk.history c.args.file.now c.read_at.new.file c.args.cursors.now c.args.at c.requires.there walk.0 walk.1 c.args.namespace.now
    c.args.most c.unwrap_or-bound.result c.unwrap_or-bound.ensures c.in_ok-batch.batch (sym c.is_stopped.ensures ∙ c.if-is_stopped.false)
    c.in_ok-batch.ensures.reads c.in-None.is c.end.new.file c.end.new.cursors c.end.ensures.left c.end.ensures.releases

pub returns-in-Some-clause-lawful : goal.returns-in-Some-clause-lawful
returns-in-Some-clause-lawful g c = λ h.
    subst (λ (held : Held). AreLawfulCursors (cursors_of held)) (sym c.go_on.ensures)
    (lawful_gone_on c.args.cursors.now c.args.at c.in_ok-batch.batch.count _ c.requires.there h)

pub returns-in-None-clause-lawful : goal.returns-in-None-clause-lawful
returns-in-None-clause-lawful g c = λ h.
    subst (λ (held : Held). AreLawfulCursors (cursors_of held)) (sym c.end.ensures.left) (lawful_without c.args.cursors.now c.args.at h)
