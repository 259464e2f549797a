use Rattle.std.proofs.Common.{◌∙◌, ap, arith, length, sym, refl, subst, map}
use Rattle.page.specs.Content.{IsItem}
use Rattle.tree_model.specs.Keys.{Each}
use Rattle.btree.specs.Loose.{item_slot}
use Rattle.tree_model.specs.View.{item_in}
use Rattle.btree.proofs.FewLemmas.{cells_few, stopped}
use Rattle.btree.proofs.ChangingLemmas.{each_of_all, leaf_changed}
use Rattle.btree.proofs.changing.change_cells.Goals as goal

pub returns-clause-turns : goal.returns-clause-turns
returns-clause-turns g c = λ base low high pairs rank e sound shown between k.
    leaf_changed (g.P.Pages.store c.args.pages.now) (g.P.Pages.store c.edit_cells.new.pages) base c.args.rank low high _ pairs _ _ rank
    (c.in_ok-edit_cells.ensures.edits pairs (c.in_ok-cells.ensures.ok ∙ e) sound.0 shown k)
    (c.in_ok-loose_slots.ensures ∙ ap (λ cs. map item_slot (map item_in cs)) c.deref.ensures.value)
    (c.in_ok-edit_cells.ensures.small (subst (Each IsItem) (sym c.in_ok-cells.ensures.ok) (each_of_all c.args.leaf.now c.in_ok-cells.ensures.sound.each)))
    sound between

pub returns-clause-few : goal.returns-clause-few
returns-clause-few g c = λ one k.
    let f = cells_few _ _ c.args.leaf.now _ (length c.args.edits.now)
    (c.in_ok-loose_slots.ensures ∙ ap (λ cs. map item_slot (map item_in cs)) c.deref.ensures.value)
    (c.in_ok-edit_cells.ensures.small (subst (Each IsItem) (sym c.in_ok-cells.ensures.ok) (each_of_all c.args.leaf.now c.in_ok-cells.ensures.sound.each)))
    c.in_ok-cells.ensures.ok c.in_ok-edit_cells.ensures.size c.in_ok-cells.ensures.sound.room (omega arith) in
    record { rank_is = refl; small = f.0; size = f.1; made = c.in_ok-edit_cells.ensures.few k }

pub returns-in_err-edit_cells-clause-few : goal.returns-in_err-edit_cells-clause-few
returns-in_err-edit_cells-clause-few g c =
    λ one k. stopped _ _ _ c.from_residual-in_err-edit_cells.result c.from_residual-in_err-edit_cells.ensures.1 (c.in_err-edit_cells.ensures.few k)

pub returns-in_err-loose_slots-clause-few : goal.returns-in_err-loose_slots-clause-few
returns-in_err-loose_slots-clause-few g c =
    λ one k. stopped _ _ _ c.from_residual-in_err-loose_slots.result c.from_residual-in_err-loose_slots.ensures.1 (c.in_ok-edit_cells.ensures.few k)
