use Rattle.std.proofs.Common.{◌≡◌, ◌∙◌, [], None, ap, arith, length, map, refl, rules, subst, sym}
use Rattle.page.specs.Content.{IsItem}
use Rattle.tree_model.specs.Keys.{Each}
use Rattle.tree_model.specs.EditView.{edit_in}
use Rattle.btree.specs.Loose.{item_slot}
use Rattle.tree_model.specs.View.{item_in}
use Rattle.btree.proofs.ChangingLemmas.{leaf_changed}
use Rattle.btree.proofs.FewLemmas.{cells_few, stopped}
use Rattle.btree.proofs.RootLemmas.{all_between}
use Rattle.tree_model.proofs.StoreLemmas.{answer_failed}
use Rattle.btree.proofs.root.first_cells.Goals as goal

pub returns-in_err-edit_cells-clause-turns : goal.returns-in_err-edit_cells-clause-turns
returns-in_err-edit_cells-clause-turns g c =
    λ k.
    let none : map item_in c.new-cells.result.items ≡ [] = search rules in
    answer_failed (g.P.Pages.store c.args.pages.now) (g.P.Pages.store c.edit_cells.new.pages) _ _ _ c.from_residual.ensures.1
    (c.in_err-edit_cells.ensures.edits [] none tt tt k)

pub returns-clause-turns : goal.returns-clause-turns
returns-clause-turns g c =
    λ k.
    let none : map item_in c.new-cells.result.items ≡ [] = search rules in
    leaf_changed (g.P.Pages.store c.args.pages.now) (g.P.Pages.store c.edit_cells.new.pages) 0 0 [] None (map edit_in c.args.edits.now) [] _ _ refl
    (c.in_ok-edit_cells.ensures.edits [] none tt tt k) (c.in_ok-loose_slots.ensures ∙ ap (λ cs. map item_slot (map item_in cs)) c.deref.ensures.value)
    (c.in_ok-edit_cells.ensures.small (subst (Each IsItem) (sym none) tt)) (tt, tt) (all_between (map edit_in c.args.edits.now))

pub returns-clause-few : goal.returns-clause-few
returns-clause-few g c =
    λ one k.
    let none : map item_in c.new-cells.result.items ≡ [] = search rules in
    let f = cells_few _ _ [] _ (length c.args.edits.now) (c.in_ok-loose_slots.ensures ∙ ap (λ cs. map item_slot (map item_in cs)) c.deref.ensures.value)
    (c.in_ok-edit_cells.ensures.small (subst (Each IsItem) (sym none) tt)) none c.in_ok-edit_cells.ensures.size (omega arith) (omega arith) in
    record { rank_is = refl; small = f.0; size = f.1; made = c.in_ok-edit_cells.ensures.few k }

pub returns-in_err-edit_cells-clause-few : goal.returns-in_err-edit_cells-clause-few
returns-in_err-edit_cells-clause-few g c = λ one k. stopped _ _ _ c.from_residual.result c.from_residual.ensures.1 (c.in_err-edit_cells.ensures.few k)

pub returns-in_err-loose_slots-clause-few : goal.returns-in_err-loose_slots-clause-few
returns-in_err-loose_slots-clause-few g c =
    λ one k. stopped _ _ _ c.from_residual-in_err-loose_slots.result c.from_residual-in_err-loose_slots.ensures.1 (c.in_ok-edit_cells.ensures.few k)
