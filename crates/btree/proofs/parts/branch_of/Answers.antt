use Rattle.std.proofs.Common.{None, ◌∙◌, sym, ap, subst, map}
use Rattle.page.specs.Content.{branch}
use Rattle.btree.specs.Loose.{GoBehind, pivot_slot, bare_pivots}
use Rattle.tree_model.specs.View.{pivot_in}
use Rattle.btree.proofs.PartLemmas.{same_pivots}
use Rattle.btree.proofs.parts.branch_of.Goals as goal

pub bare_branch-requires-clause-room : goal.bare_branch-requires-clause-room
bare_branch-requires-clause-room c =
    subst (λ cs. GoBehind None 0 (map pivot_slot (map pivot_in cs))) (sym c.deref_mut.ensures.value)
    (subst (GoBehind None 0) (sym c.in_ok-children.ensures.ok) c.requires.room)

pub returns-clause-holds : goal.returns-clause-holds
returns-clause-holds c =
    λ pivots e. ap branch (c.in_ok-branch.ensures
    ∙ ap bare_pivots (ap (map pivot_in) c.deref_mut.ensures.value ∙ same_pivots _ pivots (c.in_ok-children.ensures.ok ∙ e)))
