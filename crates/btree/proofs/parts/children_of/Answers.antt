use Rattle.btree.specs.Loose.{pivot_slot}
use Rattle.btree.specs.LooseView.{slot_in}
use Rattle.btree.proofs.PartLemmas.{is_memory, mapped_at, next_mapped}
use Rattle.btree.proofs.parts.children_of.Goals as goal

pub returns-in_err-child-clause-err : goal.returns-in_err-child-clause-err
returns-in_err-child-clause-err c =
    λ pivots e. let m = mapped_at slot_in pivot_slot c.args.loose_slots.now pivots c.loop-loose_slot.loose_slot-index c.loose_slot-item.result _
    c.loop-loose_slot-test.true c.loose_slot-item.is e in
    is_memory _ _ c.from_residual-in_err-child.ensures.1 (c.in_err-child.ensures.err m.x m.is)

pub loop-loose_slot-preserved : goal.loop-loose_slot-preserved
loop-loose_slot-preserved c =
    next_mapped pivot_slot slot_in _ _ _ c.args.loose_slots.now c.loop-loose_slot.loose_slot-index c.loose_slot-item.result _ c.in_ok-push_child.ensures.ok
    c.loop-loose_slot.invariant
    c.in_ok-child.ensures.ok c.loop-loose_slot-test.true c.loose_slot-item.is
