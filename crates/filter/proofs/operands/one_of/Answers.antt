use Rattle.std.proofs.Common.{Some, sym, subst, ◌∙◌}
use Rattle.std.specs.List.Sorted.{IsPermutation}
use Rattle.bson.specs.Tree.{Items}
use Rattle.path.specs.Reach.{items_list}
use Rattle.filter.specs.Condition.{Conditions}
use Rattle.filter.specs.Among.{AsksOneOf}
use Rattle.filter.proofs.AmongLemmas.{asks_permuted}
use Rattle.filter.proofs.operands.one_of.Goals as goal

pub invariant_of-result-2 : goal.invariant_of-result-2
invariant_of-result-2 c =
    let vs = c.in_ok-values.values in
    subst (λ (rs : Conditions). AsksOneOf (Some vs) rs) (sym (c.into_conditions-conditions.ensures ∙ c.in_ok-equals.ensures))
    (asks_permuted c.in_ok-array.array.now vs
    (subst (λ (ts : Items). IsPermutation (items_list ts) vs) c.items.ensures.items c.in_ok-values.ensures))
