use Rattle.std.proofs.Common.{arith, subst, sym}
use Rattle.tree_model.specs.Keys.{IsUnder}
use Rattle.btree.proofs.OneChildLemmas.{are_at}
use Rattle.btree.proofs.one_child.child_of_all.Goals as goal

pub returns-then-at-last-clause-all : goal.returns-then-at-last-clause-all
returns-then-at-last-clause-all c =
    λ rise. are_at c.args.branch.now c.args.edits.now c.child_of_key-at.result _ (omega arith) c.child_of_key-at.ensures rise
    (λ a lt. absurd (omega (arith, c.if-at-last.true, c.len-last.ensures.count)))

pub returns-in-Less-clause-all : goal.returns-in-Less-clause-all
returns-in-Less-clause-all c =
    λ rise. are_at c.args.branch.now c.args.edits.now c.child_of_key-at.result _ (omega arith) c.child_of_key-at.ensures rise
    (λ a lt. subst (IsUnder _) (c.branch_key.ensures a) (sym c.in-Less.ensures))
