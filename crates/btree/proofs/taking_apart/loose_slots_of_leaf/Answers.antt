use Rattle.std.proofs.Common.{◌∙◌, ◌∷◌, ◌++◌, [], sym, ap, arith, take, map}
use Rattle.page.specs.Content.{Item, inline}
use Rattle.btree.specs.Loose.{item_slot}
use Rattle.btree.specs.LooseView.{slot_in}
use Rattle.tree_model.proofs.ListLemmas.{take_more_map}
use Rattle.btree.proofs.taking_apart.loose_slots_of_leaf.Goals as goal

none : Item
none = record { key = []; place = inline [] }

pub loop-i-preserved : goal.loop-i-preserved
loop-i-preserved c =
    c.in_ok-push_loose_slot.ensures.ok ∙ ap (λ zs. zs ++ slot_in c.in_ok-loose_slot.loose_slot ∷ []) c.loop-i.invariant
    ∙ ap (λ z. take c.loop-i.i (map item_slot c.args.leaf.now) ++ z ∷ []) (c.in_ok-loose_slot.ensures ∙ ap item_slot (c.leaf_cell.ensures none))
    ∙ sym (take_more_map item_slot c.args.leaf.now c.loop-i.i none (omega arith))
