use Rattle.std.proofs.Common.{◌≡◌, ℕ, List, true, sym, ap, ◌∙◌, subst, arith}
use Rattle.std.specs.List.{AllByRecursion}
use Rattle.page.specs.Content.{item_keys, rise}
use Rattle.page.specs.Format.{leaf_cell_size, items_at}
use Rattle.page.specs.Kept.{IsWhole, KeepsLeaf}
use Rattle.page.proofs.KeptLemmas.{leaf_all_whole, leaf_kept}
use Rattle.page.proofs.leaves.Leaf.read.Goals as goal

pub cells_rise-requires-clause-whole : goal.cells_rise-requires-clause-whole
cells_rise-requires-clause-whole c =
    subst (AllByRecursion (IsWhole leaf_cell_size c.args.bytes.now)) (sym c.deref.ensures.value)
    (leaf_all_whole c.args.bytes.now c.requires (λ i. (c.type_inv.bytes i).fits) c.args.count c.in_ok-places.places.items c.in_ok-places.ensures)

pub invariant_of-result : goal.invariant_of-result
invariant_of-result c =
    let places = c.in_ok-places.places.items in
    let h = c.if-not-cells_rise.false in
    let rises : rise (item_keys (items_at c.args.bytes.now places)) ≡ true =
    ap (λ (l : List ℕ). rise (item_keys (items_at c.args.bytes.now l))) (sym c.deref.ensures.value) ∙ sym c.cells_rise.ensures ∙ h in
    subst (λ (l : List ℕ). KeepsLeaf l places) (sym c.in_ok-bytes.ensures.items)
    (leaf_kept c.args.bytes.now c.requires (λ i. (c.type_inv.bytes i).fits) c.args.count places c.in_ok-places.ensures (omega arith) rises)
