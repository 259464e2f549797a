use Rattle.std.proofs.Common.{◌∙◌, List, ℕ, sym, subst}
use Rattle.page.specs.Format.{items_at}
use Rattle.page.specs.Kept.{KeepsLeaf}
use Rattle.page.proofs.leaves.Leaf.copy.Goals as goal

pub invariant_of-result : goal.invariant_of-result
invariant_of-result c =
    let b = c.in_ok-bytes.ensures.items ∙ c.deref.ensures.value in
    let p = c.in_ok-places.ensures.items ∙ c.deref-2.ensures.value in
    subst (λ (l : List ℕ). KeepsLeaf l c.in_ok-places.places.items) (sym b) (subst (KeepsLeaf c.self.inside.bytes.items) (sym p) c.self.invariant)

pub returns : goal.returns
returns c =
    (λ i. items_at ((c.in_ok-bytes.ensures.items ∙ c.deref.ensures.value) i) ((c.in_ok-places.ensures.items ∙ c.deref-2.ensures.value) i)) ∙ c.self.view_is
