use Rattle.std.proofs.Common.{◌∙◌, ◌∷◌, ◌++◌, [], sym, ap, map, take}
use Rattle.btree.specs.Loose.{item_slot}
use Rattle.btree.specs.LooseView.{slot_in}
use Rattle.tree_model.specs.View.{item_in}
use Rattle.tree_model.proofs.ListLemmas.{map_append, map_map, take_more_map}
use Rattle.btree.proofs.node.loose_slots_of_cells.Goals as goal

pub loop-cell-preserved : goal.loop-cell-preserved
loop-cell-preserved c =
    ap (map slot_in) c.in_ok-push.ensures.items ∙ map_append slot_in _ _
    ∙ ap (λ zs. zs ++ slot_in c.in_ok-loose_slot.loose_slot ∷ [])
    (c.loop-cell.invariant ∙ ap (take c.loop-cell.cell-index) (map_map item_in item_slot c.args.cells.now))
    ∙ ap (λ u. take c.loop-cell.cell-index (map (λ x. item_slot (item_in x)) c.args.cells.now) ++ u ∷ []) c.in_ok-loose_slot.ensures
    ∙ sym (take_more_map (λ x. item_slot (item_in x)) c.args.cells.now c.loop-cell.cell-index _ c.loop-cell-test.true)
    ∙ ap (take _) (sym (map_map item_in item_slot c.args.cells.now))
