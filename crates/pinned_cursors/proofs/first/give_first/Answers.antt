use Rattle.std.proofs.Common.{inl, inr, refl, sym, ◌∙◌}
use Rattle.std.proofs.lemmas.Result.{err_from_is_err_and}
use Rattle.pinned_cursors.specs.Opening.{way_by}
use Rattle.pinned_cursors.proofs.FirstLemmas.{first_none, first_open, first_refused, first_whole}
use Rattle.pinned_cursors.proofs.first.give_first.Goals as goal

pub returns-then-is_stopped-clause-gives : goal.returns-then-is_stopped-clause-gives
returns-then-is_stopped-clause-gives g c =
    first_none g.D.Disk.history c.args.asked.now.connection c.args.asked.now.namespace.now c.args.left.number c.args.left.projection.now
    (way_by c.args.left) c.args.rest.value c.args.asked.now.most c.args.file.now c.args.cursors.now _
    (inr (refl, inl (sym c.is_stopped.ensures ∙ c.if-is_stopped.true))) c.args.file.now refl

pub returns-in_err-version-clause-gives : goal.returns-in_err-version-clause-gives
returns-in_err-version-clause-gives g c =
    let e = err_from_is_err_and c.from_residual.result c.from_residual.ensures.1 in
    rw e.1
    (first_none g.D.Disk.history c.args.asked.now.connection c.args.asked.now.namespace.now c.args.left.number c.args.left.projection.now
    (way_by c.args.left) c.args.rest.value c.args.asked.now.most c.args.file.now c.args.cursors.now e.0 (inl e.2) c.pin.new.self c.in_err-version.ensures.err)

pub returns-in-Err-clause-gives : goal.returns-in-Err-clause-gives
returns-in-Err-clause-gives g c =
    first_refused g.D.Disk.history c.args.asked.now.connection c.args.asked.now.namespace.now c.args.left.number c.args.left.projection.now
    (way_by c.args.left) c.args.rest.value c.args.asked.now.most c.args.file.now c.args.cursors.now (sym c.is_stopped.ensures ∙ c.if-is_stopped.false)
    c.in_ok-version.version c.pin.new.self c.give_pinned.new.file c.in_ok-version.ensures c.in-Err.refusal
    c.give_pinned.new.cursors c.in-Err.ensures.gives c.unpin.new.self c.unpin.ensures

pub returns-then-given-clause-gives : goal.returns-then-given-clause-gives
returns-then-given-clause-gives g c =
    first_open g.D.Disk.history c.args.asked.now.connection c.args.asked.now.namespace.now c.args.left.number c.args.left.projection.now
    (way_by c.args.left) c.args.rest.value c.args.asked.now.most c.args.file.now c.args.cursors.now (sym c.is_stopped.ensures ∙ c.if-is_stopped.false)
    c.in_ok-version.version c.pin.new.self c.give_pinned.new.file c.in_ok-version.ensures c.in-Ok.given
    c.give_pinned.new.cursors c.in-Ok.ensures.gives c.if-given.true

pub returns-clause-gives : goal.returns-clause-gives
returns-clause-gives g c =
    first_whole g.D.Disk.history c.args.asked.now.connection c.args.asked.now.namespace.now c.args.left.number c.args.left.projection.now
    (way_by c.args.left) c.args.rest.value c.args.asked.now.most c.args.file.now c.args.cursors.now (sym c.is_stopped.ensures ∙ c.if-is_stopped.false)
    c.in_ok-version.version c.pin.new.self c.give_pinned.new.file c.in_ok-version.ensures c.in-Ok.given
    c.give_pinned.new.cursors c.in-Ok.ensures.gives c.if-given.false c.unpin-2.new.self c.unpin-2.ensures
