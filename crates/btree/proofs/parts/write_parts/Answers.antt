use Rattle.std.proofs.Common.{◌≡◌, ◌<◌, sym, subst, arith, map, length, rules}
use Rattle.tree_model.proofs.ListLemmas.{long_map}
use Rattle.btree.specs.LooseView.{slot_in}
use Rattle.tree_model.proofs.StoreLemmas.{grows_itself, grows_trans}
use Rattle.btree.specs.Loose.{slots_size}
use Rattle.btree.proofs.FewLemmas.{stopped}
use Rattle.btree.proofs.FewParts.{AreFewSoFar, few_done, few_none, few_step, few_stopped, few_stopped_later}
use Rattle.btree.proofs.RaiseLemmas.{ArePartly, partly_done, partly_failed, partly_none, partly_step, writes_failed}
use Rattle.btree.proofs.parts.write_parts.Goals as goal

pub loop-rest-init : goal.loop-rest-init
loop-rest-init g c = record {
  grows = grows_itself (g.P.Pages.store c.args.pages.now);
  some = λ lt. omega arith;
  few = λ k h. subst
      (λ us. AreFewSoFar (g.P.Pages.store c.args.pages.now) (g.P.Pages.store c.args.pages.now) (slots_size (map slot_in c.args.loose_slots.now))
      (map slot_in us)
      (map slot_in c.args.loose_slots.now)) (sym c.new-above.ensures.items)
      (few_none (g.P.Pages.store c.args.pages.now) (map slot_in c.args.loose_slots.now) h);
  partly = λ d low high body e enough may small spread shown k.
      subst (λ us. ArePartly (g.P.Pages.store c.args.pages.now) (g.P.Pages.store c.args.pages.now) d low high body (map slot_in us)
      (map slot_in c.args.loose_slots.now)) (sym c.new-above.ensures.items)
      (partly_none (g.P.Pages.store c.args.pages.now) d low high body _ e enough small spread shown);
}

pub returns-in_err-loose_slot-clause-writes : goal.returns-in_err-loose_slot-clause-writes
returns-in_err-loose_slot-clause-writes g c = λ d low high body e enough may small spread shown k.
    let step = c.in_err-loose_slot.ensures.grows.frame k in
    writes_failed _ (g.P.Pages.store c.args.pages.now)
    (g.P.Pages.store c.write_part.new.pages) d low high body c.from_residual.result _ c.from_residual.ensures.1
    (partly_failed (g.P.Pages.store c.args.pages.now) (g.P.Pages.store c.loop-rest.pages)
    (g.P.Pages.store c.write_part.new.pages) d low high body _ c.loop-rest.rest.now _ c.part_len-at.result c.args.fills
    (c.loop-rest.invariant.partly d low high body e enough may small spread shown step.word) may c.part_len-at.ensures.part c.part_len-at.ensures.some
    c.part_len-at.ensures.within
    c.split_at.ensures.front step _ (λ b is enough go. c.in_err-loose_slot.ensures.writes d b is enough go k) (c.loop-rest.invariant.grows.frame step.word))

pub loop-rest-preserved : goal.loop-rest-preserved
loop-rest-preserved g c = record {
  grows = grows_trans _ _ _ c.loop-rest.invariant.grows c.in_ok-loose_slot.ensures.grows;
  some = λ lt. omega (arith, c.in_ok-push_loose_slot.ensures.long);
  few = λ k h. few_step (g.P.Pages.store c.args.pages.now) (g.P.Pages.store c.loop-rest.pages)
      (g.P.Pages.store c.write_part.new.pages) _ c.part_len-at.result _ _ c.loop-rest.rest.now _ _ c.in_ok-loose_slot.loose_slot
      (let some : 0 < length c.loop-rest.rest.now = search rules in some)
      (c.loop-rest.invariant.few (c.in_ok-loose_slot.ensures.grows.frame k).word h) c.part_len-at.ensures.full c.split_at.ensures.front c.split_at.ensures.back
      (c.in_ok-loose_slot.ensures.one k) c.in_ok-push_loose_slot.ensures.ok;
  partly = λ d low high body e enough may small spread shown k.
      partly_step (g.P.Pages.store c.args.pages.now) (g.P.Pages.store c.loop-rest.pages)
      (g.P.Pages.store c.write_part.new.pages) d low high body _ c.loop-rest.rest.now _ c.part_len-at.result c.args.fills
      (c.loop-rest.invariant.partly d low high body e enough may small spread shown (c.in_ok-loose_slot.ensures.grows.frame k).word) may
      c.part_len-at.ensures.part
      c.part_len-at.ensures.some c.part_len-at.ensures.within
      c.split_at.ensures.front (c.in_ok-loose_slot.ensures.grows.frame k) _ _ c.in_ok-loose_slot.loose_slot c.split_at.ensures.back
      (λ b is enough go. c.in_ok-loose_slot.ensures.writes d b is enough go k) c.in_ok-push_loose_slot.ensures.ok;
}

pub returns-clause-writes : goal.returns-clause-writes
returns-clause-writes g c = λ d low high body e enough may small spread shown k.
    partly_done (g.P.Pages.store c.args.pages.now) (g.P.Pages.store c.loop-rest.pages) d low high body _ _
    (c.loop-rest.invariant.partly d low high body e enough may small spread shown k)
    (let none : length c.loop-rest.rest.now ≡ 0 = search rules in omega (arith, long_map slot_in c.loop-rest.rest.now))

pub returns-in_err-loose_slot-clause-grows : goal.returns-in_err-loose_slot-clause-grows
returns-in_err-loose_slot-clause-grows g c = grows_trans _ _ _ c.loop-rest.invariant.grows c.in_err-loose_slot.ensures.grows

pub returns-in_err-push_loose_slot-clause-grows : goal.returns-in_err-push_loose_slot-clause-grows
returns-in_err-push_loose_slot-clause-grows g c = grows_trans _ _ _ c.loop-rest.invariant.grows c.in_ok-loose_slot.ensures.grows

pub returns-clause-few : goal.returns-clause-few
returns-clause-few g c = λ k h.
    few_done (g.P.Pages.store c.args.pages.now) (g.P.Pages.store c.loop-rest.pages) _ _ _ (c.loop-rest.invariant.few k h)
    (let none : length c.loop-rest.rest.now ≡ 0 = search rules in omega (arith, long_map slot_in c.loop-rest.rest.now))

pub returns-in_err-loose_slot-clause-few : goal.returns-in_err-loose_slot-clause-few
returns-in_err-loose_slot-clause-few g c =
    λ k h.
    stopped _ _ _ c.from_residual.result c.from_residual.ensures.1
    (few_stopped (g.P.Pages.store c.args.pages.now) (g.P.Pages.store c.loop-rest.pages) (g.P.Pages.store c.write_part.new.pages)
    (slots_size (map slot_in c.args.loose_slots.now)) _ _ (c.loop-rest.invariant.few (c.in_err-loose_slot.ensures.grows.frame k).word h)
    (c.in_err-loose_slot.ensures.one k))

pub returns-in_err-push_loose_slot-clause-few : goal.returns-in_err-push_loose_slot-clause-few
returns-in_err-push_loose_slot-clause-few g c =
    λ k h.
    stopped _ _ _ c.from_residual-in_err-push_loose_slot.result c.from_residual-in_err-push_loose_slot.ensures.1
    (few_stopped_later (g.P.Pages.store c.args.pages.now) (g.P.Pages.store c.loop-rest.pages) (g.P.Pages.store c.write_part.new.pages)
    (slots_size (map slot_in c.args.loose_slots.now)) c.part_len-at.result _ c.loop-rest.rest.now _ c.in_ok-loose_slot.loose_slot
    (let some : 0 < length c.loop-rest.rest.now = search rules in some)
    (c.loop-rest.invariant.few (c.in_ok-loose_slot.ensures.grows.frame k).word h) c.part_len-at.ensures.full (c.in_ok-loose_slot.ensures.one k))
