use Rattle.std.proofs.Common.{ℕ, List, length, refl, ap, ◌∙◌, arith}
use Rattle.page.specs.Format.{page_bytes}
use Rattle.page.proofs.KeptLemmas.{few_items, few_pivots, leaf_len, branch_len}
use Rattle.page.proofs.page_image.PageImage.write.Goals as goal

pub write_tree_page-requires-clause-count : goal.write_tree_page-requires-clause-count
write_tree_page-requires-clause-count c = omega (arith, c.len.ensures.count, c.len.ensures.sound.room, few_items c.in-Leaf.leaf)

pub write_tree_page-requires-clause-body : goal.write_tree_page-requires-clause-body
write_tree_page-requires-clause-body c = ap (λ (l : List ℕ). length l) c.bytes.ensures ∙ leaf_len c.in-Leaf.leaf c.len.ensures.sound

pub write_tree_page-requires-in-Branch-clause-count : goal.write_tree_page-requires-in-Branch-clause-count
write_tree_page-requires-in-Branch-clause-count c =
    omega (arith, c.len-in-Branch.ensures.count, c.len-in-Branch.ensures.sound.room, few_pivots c.in-Branch.branch)

pub write_tree_page-requires-in-Branch-clause-body : goal.write_tree_page-requires-in-Branch-clause-body
write_tree_page-requires-in-Branch-clause-body c =
    ap (λ (l : List ℕ). length l) c.bytes-in-Branch.ensures ∙ branch_len c.in-Branch.branch c.len-in-Branch.ensures.sound

pub returns-in-Leaf : goal.returns-in-Leaf
unfolding page_bytes
returns-in-Leaf c = rw (c.write_tree_page.ensures, c.in-Leaf.is, c.len.ensures.count, c.bytes.ensures) refl

pub returns-in-Branch : goal.returns-in-Branch
unfolding page_bytes
returns-in-Branch c = rw (c.write_tree_page-in-Branch.ensures, c.in-Branch.is, c.len-in-Branch.ensures.count, c.bytes-in-Branch.ensures) refl
