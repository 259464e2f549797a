use Rattle.std.proofs.Common.{◌≡◌, ◌+◌, ◌-◌, arith, get_or, length, map, subst}
use Rattle.tree_model.specs.Keys.{IsUnder}
use Rattle.btree.specs.LooseView.{slot_in}
use Rattle.btree.proofs.BetweenLemmas.{within_bound}
use Rattle.btree.proofs.one_child.are_between.Goals as goal

pub returns-clause-first : goal.returns-clause-first
returns-clause-first c =
    λ s d is.
    subst (λ k. IsUnder k (get_or (map slot_in c.args.loose_slots.now) 0 s).key) (c.branch_key.ensures d)
    (subst (IsUnder c.branch_key.result.now) (c.loose_slot_key.ensures s) (c.is_over.ensures.no c.if-not-is_over.false))

pub returns-clause-last : goal.returns-clause-last
returns-clause-last c =
    λ s d is lt.
    let next : c.args.to - 1 + 1 ≡ c.args.to = omega (arith, c.requires.some, c.requires.order) in
    subst (λ n. IsUnder (get_or (map slot_in c.args.loose_slots.now) (length c.args.loose_slots.now - 1) s).key (get_or c.args.branch.now n d).key) next
    (subst (λ k. IsUnder k (get_or c.args.branch.now (c.args.to - 1 + 1) d).key) (c.loose_slot_key-2.ensures s)
    (within_bound _ _ _ _ is c.is_within.ensures (c.high_bound.ensures.inner d (omega (arith, lt, next)))))
