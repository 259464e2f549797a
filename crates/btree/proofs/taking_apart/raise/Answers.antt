use Rattle.std.proofs.Common.{◌∙◌, sym, ap, subst, map, refl}
use Rattle.tree_model.specs.Keys.{Each}
use Rattle.btree.specs.Few.{AreFewPages, WritesUpTo}
use Rattle.btree.specs.Loose.{IsEnough, IsSlot, slots_size}
use Rattle.btree.specs.LooseView.{slot_in}
use Rattle.btree.specs.Turn.{model_in}
use Rattle.btree.proofs.FewLemmas.{stopped}
use Rattle.btree.proofs.HeldLemmas.{raised, ready_enough}
use Rattle.btree.proofs.taking_apart.raise.Goals as goal

pub returns-clause-turns : goal.returns-clause-turns
returns-clause-turns g c =
    λ base low high entries reached h ready k.
    let same = ap (map slot_in) c.deref.ensures.value in
    raised (g.P.Pages.store c.args.pages.now) (g.P.Pages.store c.write_parts.new.pages) base low high entries reached (model_in c.args.node) _ h ready
    (c.in_ok-loose_slots.ensures.writes h.d low high h.body (same ∙ h.slots_are)
    (subst (IsEnough h.d) (sym same) (ready_enough base h.d (model_in c.args.node) (h.rank_is ready.0) ready))
    (c.may_fill-fills.ensures h.d h.body h.slots_are) (subst (Each IsSlot) (sym same) h.small) h.spread h.shown k) refl

pub returns-clause-few : goal.returns-clause-few
returns-clause-few g c =
    λ k h.
    let same = c.deref.ensures.value in
    subst (λ us. AreFewPages (g.P.Pages.store c.args.pages.now) (g.P.Pages.store c.write_parts.new.pages) (slots_size (map slot_in us))
    (map slot_in c.in_ok-loose_slots.loose_slots.items)) same (c.in_ok-loose_slots.ensures.few k (subst (λ us. Each IsSlot (map slot_in us)) (sym same) h))

pub returns-in_err-loose_slots-clause-few : goal.returns-in_err-loose_slots-clause-few
returns-in_err-loose_slots-clause-few g c =
    λ k h.
    let same = c.deref.ensures.value in
    stopped _ _ _ c.from_residual.result c.from_residual.ensures.1
    (subst (λ us. WritesUpTo (g.P.Pages.store c.args.pages.now) (g.P.Pages.store c.write_parts.new.pages) (slots_size (map slot_in us))) same
    (c.in_err-loose_slots.ensures.few k (subst (λ us. Each IsSlot (map slot_in us)) (sym same) h)))
