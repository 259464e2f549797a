use Rattle.std.proofs.Common.{◌∙◌, ◌∷◌, ◌++◌, ◌+◌, [], sym, ap, arith, map}
use Rattle.page.specs.Content.{Pivot}
use Rattle.btree.specs.Loose.{Slot, pivot_slot, child, under_key}
use Rattle.btree.specs.LooseView.{slot_in}
use Rattle.btree.specs.OneChild.{slots_between}
use Rattle.btree.proofs.AroundLemmas.{between_more, between_none}
use Rattle.btree.proofs.HeldLemmas.{pivot_there, under_long}
use Rattle.btree.proofs.taking_apart.loose_slots_between.Goals as goal

none : Slot
none = record { key = []; load = child 0 }

pub loop-i-init : goal.loop-i-init
loop-i-init c =
    ap (map slot_in) c.in_ok-loose_slots.ensures.items ∙ sym (between_none c.args.from (map pivot_slot (under_key c.args.low.now c.args.branch.now)))

pub loop-i-preserved : goal.loop-i-preserved
loop-i-preserved c =
    let slots = map pivot_slot (under_key c.args.low.now c.args.branch.now) in
    c.in_ok-push_loose_slot.ensures.ok ∙ ap (λ zs. zs ++ slot_in c.in_ok-loose_slot.loose_slot ∷ []) c.loop-i.invariant
    ∙ ap (λ z. slots_between c.args.from c.loop-i.i slots ++ z ∷ [])
    (c.in_ok-loose_slot.ensures
    ∙ sym (pivot_there c.args.low.now c.args.branch.now c.loop-i.i _ _ (omega arith) c.low_bound-key.ensures.first c.low_bound-key.ensures.later
    (λ d. ap (λ (a : Pivot). a.child) (c.branch_child.ensures d)) none))
    ∙ sym (between_more c.args.from c.loop-i.i slots none (omega arith) (omega (arith, under_long c.args.low.now c.args.branch.now)))
