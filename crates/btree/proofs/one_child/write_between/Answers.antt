use Rattle.std.proofs.Common.{◌≡◌, ◌∙◌, ◌++◌, ◌+◌, ◌-◌, ℕ, List, ap, arith, drop, length, map, min, refl, subst, sym, take}
use Rattle.page.specs.ChildPage.{exchanged}
use Rattle.page.specs.Content.{Pivot, IsBranch}
use Rattle.btree.specs.Loose.{Slot, pivot_slot, under_key}
use Rattle.btree.specs.LooseView.{slot_in}
use Rattle.btree.specs.Turn.{IsHeld}
use Rattle.tree_model.specs.View.{pivot_in}
use Rattle.btree.proofs.AroundLemmas.{pivots_held, around_held, under_exchanged}
use Rattle.btree.proofs.HeldLemmas.{turns_failed}
use Rattle.tree_model.proofs.StoreLemmas.{grows_itself, memory_cause}
use Rattle.btree.proofs.one_child.write_between.Goals as goal

pub with_children-requires-clause-sound : goal.with_children-requires-clause-sound
with_children-requires-clause-sound g c =
    subst IsBranch
    (sym (λ i. exchanged (c.saturating_sub.ensures i) (c.place_behind.ensures.place i) (map pivot_in (c.deref.ensures.value i)) c.args.branch.now))
    (c.requires.sound (map pivot_in c.in_ok-children.children.items) (sym c.in_ok-children.ensures.ok))

pub returns-clause-turns : goal.returns-clause-turns
returns-clause-turns g c =
    λ base high entries reached m deep little k.
    let s = g.P.Pages.store c.args.pages.now in
    let low = c.args.low.now in
    let pivots = c.args.branch.now in
    let slots = map pivot_slot (under_key low pivots) in
    let from : ℕ = c.args.at - 1 in
    let to : ℕ = min (c.args.at + 2) (length pivots) in
    let new : List Pivot = map pivot_in c.in_ok-children.children.items in
    let made_is : c.in_ok-made.made ≡ exchanged from to new pivots =
    c.in_ok-made.ensures
    ∙ (λ i. exchanged (c.saturating_sub.ensures i) (c.place_behind.ensures.place i) (map pivot_in (c.deref.ensures.value i)) pivots) in
    let slots_are : take from slots ++ (map slot_in c.args.loose_slots.now ++ drop to slots) ≡ map pivot_slot (under_key low c.in_ok-made.made) =
    ap (λ (ss : List Slot). take from slots ++ (ss ++ drop to slots)) (sym c.in_ok-children.ensures.ok)
    ∙ sym (under_exchanged low from to new pivots (omega (arith, c.requires.behind)) (omega (arith, c.requires.place)) (omega (arith, c.requires.place)))
    ∙ ap (λ (a : List Pivot). map pivot_slot (under_key low a)) (sym made_is) in
    c.write_made.ensures.turns base high entries reached
    (subst (λ (ss : List Slot). IsHeld s base low high entries reached (record { rank = c.args.rank; slots = ss })) slots_are
    (around_held s base low high slots from to c.args.rank entries reached _ m refl))
    deep (subst IsBranch (sym made_is) (c.requires.sound new (sym c.in_ok-children.ensures.ok))) little k

pub returns-in_err-children-clause-turns : goal.returns-in_err-children-clause-turns
returns-in_err-children-clause-turns g c =
    λ base high entries reached m deep little k.
    let s = g.P.Pages.store c.args.pages.now in
    let a = pivots_held s base m.key m.between m.mid_entries m.mid_pages c.args.rank (map slot_in c.args.loose_slots.now) m.held deep in
    turns_failed s s base c.args.low.now high entries reached c.from_residual.result _ c.from_residual.ensures.1
    (memory_cause s s _ (c.in_err-children.ensures.err a.pivots a.is))

pub returns-in_err-children-clause-grows : goal.returns-in_err-children-clause-grows
returns-in_err-children-clause-grows g c = grows_itself (g.P.Pages.store c.args.pages.now)

pub returns-in_err-made-clause-grows : goal.returns-in_err-made-clause-grows
returns-in_err-made-clause-grows g c = grows_itself (g.P.Pages.store c.args.pages.now)
