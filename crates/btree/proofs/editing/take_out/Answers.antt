use Rattle.std.proofs.Common.{◌≡◌, ◌≤◌, ◌∙◌, sym, ap, subst, arith, length, map, rules, vec_len}
use Rattle.std.specs.Ordering.{is_eq}
use Rattle.tree_model.specs.Calls.{IsTakenOut}
use Rattle.tree_model.specs.View.{item_in}
use Rattle.tree_model.specs.Keys.{Each}
use Rattle.page.specs.Content.{IsItem, item_size, total}
use Rattle.tree_model.specs.Search.{IsPlace}
use Rattle.btree.proofs.FewLemmas.{removed_size}
use Rattle.btree.proofs.EditLemmas.{each_removed, taken_past, taken_other, taken_here, taken_failed}
use Rattle.btree.proofs.editing.take_out.Goals as goal

pub returns-then-at-len-clause-takes : goal.returns-then-at-len-clause-takes
returns-then-at-len-clause-takes g c =
    λ pairs e rise shown k. taken_past c.args.cells.now.items pairs c.args.key.now c.place_among-at.result e rise
    (subst (λ cs. IsPlace (map item_in cs) c.args.key.now c.place_among-at.result) c.deref.ensures.value c.place_among-at.ensures)
    (g.P.Pages.store c.args.pages.now) (let long : vec_len c.args.cells.now ≡ length c.args.cells.now.items = search rules in omega arith)

pub returns-then-not-is_eq-clause-takes : goal.returns-then-not-is_eq-clause-takes
returns-then-not-is_eq-clause-takes g c =
    λ pairs e rise shown k. taken_other c.args.cells.now.items pairs c.args.key.now c.place_among-at.result e rise
    (subst (λ cs. IsPlace (map item_in cs) c.args.key.now c.place_among-at.result) c.deref.ensures.value c.place_among-at.ensures)
    (g.P.Pages.store c.args.pages.now) c.index-cell.result.now
    (let long : vec_len c.args.cells.now ≡ length c.args.cells.now.items = search rules in omega arith) c.index-cell.ensures
    (ap is_eq (sym c.compare_keys.ensures) ∙ sym c.is_eq.ensures ∙ c.if-not-is_eq.true)

pub returns-in_err-retire_value-clause-takes : goal.returns-in_err-retire_value-clause-takes
returns-in_err-retire_value-clause-takes g c =
    λ pairs e rise shown k. taken_failed c.args.cells.now.items pairs c.args.key.now c.place_among-at.result e rise
    (subst (λ cs. IsPlace (map item_in cs) c.args.key.now c.place_among-at.result) c.deref.ensures.value c.place_among-at.ensures)
    (g.P.Pages.store c.args.pages.now) (g.P.Pages.store c.retire_value.new.pages)
    c.index-cell.result.now _ _ _ (let long : vec_len c.args.cells.now ≡ length c.args.cells.now.items = search rules in
    omega arith) c.index-cell.ensures shown c.from_residual.ensures.1 (λ x is has. c.in_err-retire_value.ensures.retires x is has k)

pub returns-clause-takes : goal.returns-clause-takes
returns-clause-takes g c =
    λ pairs e rise shown k.
    subst (λ cs. IsTakenOut (g.P.Pages.store c.args.pages.now) (g.P.Pages.store c.retire_value.new.pages) c.args.key.now pairs
    (map item_in cs) c.place_among-at.result) (sym c.remove.ensures.items)
    (taken_here c.args.cells.now.items pairs c.args.key.now c.place_among-at.result e rise
    (subst (λ cs. IsPlace (map item_in cs) c.args.key.now c.place_among-at.result) c.deref.ensures.value c.place_among-at.ensures)
    (g.P.Pages.store c.args.pages.now) (g.P.Pages.store c.retire_value.new.pages)
    c.index-cell.result.now (let long : vec_len c.args.cells.now ≡ length c.args.cells.now.items = search rules in omega arith) c.index-cell.ensures
    (ap is_eq (sym c.compare_keys.ensures) ∙ sym c.is_eq.ensures ∙ c.if-not-is_eq.false) shown (λ x is has. c.in_ok-retire_value.ensures.retires x is has k))

pub returns-clause-small : goal.returns-clause-small
returns-clause-small g c =
    λ h. subst (λ cs. Each IsItem (map item_in cs)) (sym c.remove.ensures.items) (each_removed c.args.cells.now.items c.place_among-at.result h)

pub returns-clause-size : goal.returns-clause-size
returns-clause-size g c =
    subst (λ cs. total item_size (map item_in cs) ≤ total item_size (map item_in c.args.cells.now.items)) (sym c.remove.ensures.items)
    (removed_size c.args.cells.now.items c.place_among-at.result)
