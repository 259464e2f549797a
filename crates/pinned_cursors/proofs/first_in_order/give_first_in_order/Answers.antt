use Rattle.std.proofs.Common.{inl, inr, Option, Ok, refl, sym, subst, ◌∙◌}
use Rattle.std.proofs.lemmas.Result.{err_from_is_err_and}
use Rattle.pinned_cursors.specs.First.{GivesPinned, OrNone, PinnedNone}
use Rattle.pinned_cursors.specs.Opening.{held_walk, way_in_order}
use Rattle.pinned_cursors.specs.declared.first.FirstGiven.{FirstGiven}
use Rattle.pinned_cursors.proofs.FirstLemmas.{first_none, first_open, first_refused, first_spared, first_whole}
use Rattle.pinned_cursors.proofs.first_in_order.give_first_in_order.Goals as goal

pub returns-then-is_stopped-clause-gives : goal.returns-then-is_stopped-clause-gives
returns-then-is_stopped-clause-gives g c =
    let left = c.args.left.now in
    first_none g.D.Disk.history c.args.asked.now.connection c.args.asked.now.namespace.now left.number left.walk.projection.now
    (way_in_order left.walk) c.args.rest.value c.args.asked.now.most c.args.file.now c.args.cursors.now _
    (inr (refl, inl (sym c.is_stopped.ensures ∙ c.if-is_stopped.true))) c.args.file.now refl

pub returns-in_err-version-clause-gives : goal.returns-in_err-version-clause-gives
returns-in_err-version-clause-gives g c =
    let left = c.args.left.now in
    let e = err_from_is_err_and c.from_residual.result c.from_residual.ensures.1 in
    rw e.1
    (first_none g.D.Disk.history c.args.asked.now.connection c.args.asked.now.namespace.now left.number left.walk.projection.now
    (way_in_order left.walk) c.args.rest.value c.args.asked.now.most c.args.file.now c.args.cursors.now e.0 (inl e.2) c.pin.new.self
    c.in_err-version.ensures.err)

pub returns-in-Err-clause-gives : goal.returns-in-Err-clause-gives
returns-in-Err-clause-gives g c =
    let left = c.args.left.now in
    first_refused g.D.Disk.history c.args.asked.now.connection c.args.asked.now.namespace.now left.number left.walk.projection.now
    (way_in_order left.walk) c.args.rest.value c.args.asked.now.most c.args.file.now c.args.cursors.now (sym c.is_stopped.ensures ∙ c.if-is_stopped.false)
    c.in_ok-version.version c.pin.new.self c.may_give_pinned.new.file c.in_ok-version.ensures c.in-Err.refusal
    c.may_give_pinned.new.cursors c.in-Err.ensures.gives c.unpin.new.self c.unpin.ensures

-- nothing was given
pub returns-in_default-clause-gives : goal.returns-in_default-clause-gives
returns-in_default-clause-gives g c =
    let left = c.args.left.now in
    let none = subst
    (λ (o : Option FirstGiven). OrNone (λ r. GivesPinned g.D.Disk.history c.args.asked.now.connection c.args.asked.now.namespace.now
    (held_walk c.in_ok-version.version left.number left.walk.projection.now (way_in_order left.walk)) c.args.rest.value c.args.asked.now.most r
    c.pin.new.self c.may_give_pinned.new.file c.args.cursors.now c.may_give_pinned.new.cursors)
    (PinnedNone g.D.Disk.history c.pin.new.self c.may_give_pinned.new.file c.args.cursors.now c.may_give_pinned.new.cursors) (Ok o))
    c.in_default.is c.in-Ok.ensures.gives in
    first_spared g.D.Disk.history c.args.asked.now.connection c.args.asked.now.namespace.now left.number left.walk.projection.now
    (way_in_order left.walk) c.args.rest.value c.args.asked.now.most c.args.file.now c.args.cursors.now (sym c.is_stopped.ensures ∙ c.if-is_stopped.false)
    c.in_ok-version.version c.pin.new.self c.may_give_pinned.new.file c.in_ok-version.ensures
    c.may_give_pinned.new.cursors none c.unpin-in_default.new.self c.unpin-in_default.ensures

pub returns-then-given-clause-gives : goal.returns-then-given-clause-gives
returns-then-given-clause-gives g c =
    let left = c.args.left.now in
    let gives = subst
    (λ (o : Option FirstGiven). OrNone (λ r. GivesPinned g.D.Disk.history c.args.asked.now.connection c.args.asked.now.namespace.now
    (held_walk c.in_ok-version.version left.number left.walk.projection.now (way_in_order left.walk)) c.args.rest.value c.args.asked.now.most r
    c.pin.new.self c.may_give_pinned.new.file c.args.cursors.now c.may_give_pinned.new.cursors)
    (PinnedNone g.D.Disk.history c.pin.new.self c.may_give_pinned.new.file c.args.cursors.now c.may_give_pinned.new.cursors) (Ok o))
    c.in-Some.is c.in-Ok.ensures.gives in
    first_open g.D.Disk.history c.args.asked.now.connection c.args.asked.now.namespace.now left.number left.walk.projection.now
    (way_in_order left.walk) c.args.rest.value c.args.asked.now.most c.args.file.now c.args.cursors.now (sym c.is_stopped.ensures ∙ c.if-is_stopped.false)
    c.in_ok-version.version c.pin.new.self c.may_give_pinned.new.file c.in_ok-version.ensures c.in-Some.given
    c.may_give_pinned.new.cursors gives c.if-given.true

pub returns-clause-gives : goal.returns-clause-gives
returns-clause-gives g c =
    let left = c.args.left.now in
    let gives = subst
    (λ (o : Option FirstGiven). OrNone (λ r. GivesPinned g.D.Disk.history c.args.asked.now.connection c.args.asked.now.namespace.now
    (held_walk c.in_ok-version.version left.number left.walk.projection.now (way_in_order left.walk)) c.args.rest.value c.args.asked.now.most r
    c.pin.new.self c.may_give_pinned.new.file c.args.cursors.now c.may_give_pinned.new.cursors)
    (PinnedNone g.D.Disk.history c.pin.new.self c.may_give_pinned.new.file c.args.cursors.now c.may_give_pinned.new.cursors) (Ok o))
    c.in-Some.is c.in-Ok.ensures.gives in
    first_whole g.D.Disk.history c.args.asked.now.connection c.args.asked.now.namespace.now left.number left.walk.projection.now
    (way_in_order left.walk) c.args.rest.value c.args.asked.now.most c.args.file.now c.args.cursors.now (sym c.is_stopped.ensures ∙ c.if-is_stopped.false)
    c.in_ok-version.version c.pin.new.self c.may_give_pinned.new.file c.in_ok-version.ensures c.in-Some.given
    c.may_give_pinned.new.cursors gives c.if-given.false c.unpin-2.new.self c.unpin-2.ensures
