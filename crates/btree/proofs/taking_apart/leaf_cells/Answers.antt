use Rattle.std.proofs.Common.{◌∙◌, ◌∷◌, ◌++◌, [], sym, ap, arith, take}
use Rattle.page.specs.Content.{Item, inline}
use Rattle.tree_model.specs.View.{item_in}
use Rattle.tree_model.proofs.ListLemmas.{take_more}
use Rattle.btree.proofs.taking_apart.leaf_cells.Goals as goal

none : Item
none = record { key = []; place = inline [] }

pub loop-i-preserved : goal.loop-i-preserved
loop-i-preserved c =
    c.in_ok-push_cell.ensures.ok ∙ ap (λ zs. zs ++ item_in c.leaf_cell.result ∷ []) c.loop-i.invariant
    ∙ ap (λ z. take c.loop-i.i c.args.leaf.now ++ z ∷ []) (c.leaf_cell.ensures none) ∙ sym (take_more c.args.leaf.now c.loop-i.i none (omega arith))
