use Rattle.std.proofs.Common.{◌∙◌, rules, map, sym, subst, List}
use Rattle.std.specs.Ordering.{is_lt}
use Rattle.std.specs.List.Sorted.{IsPermutation}
use Rattle.std.proofs.lemmas.Fn.{always_returns_same}
use Rattle.std.proofs.lemmas.List.MinMax.{ranks_by}
use Rattle.std.proofs.lemmas.List.Sorted.{IsPermutation-map}
use Rattle.bson.specs.Tree.{Tree}
use Rattle.bson.specs.View.{tree}
use Rattle.value_order.specs.Order.{compare}
use Rattle.value_order.specs.TotalLaws.{compare_total}
use Rattle.filter.proofs.AmongLemmas.{items_mapped}
use Rattle.filter.proofs.value_set.ValueSet.of.Goals as goal

pub invariant_of-result : goal.invariant_of-result
invariant_of-result c =
    c.sort_unstable_by.ensures.sorted (λ a b. is_lt (compare (tree a) (tree b))) (ranks_by compare_total tree)
    (always_returns_same _ _ _ (λ a r f k. search rules))

pub returns : goal.returns
returns c =
    let sorted = c.sort_unstable_by.new.self.items in
    subst (λ (ts : List Tree). IsPermutation ts (map tree sorted))
    (c.in_ok-ascending.ensures ∙ sym (items_mapped c.args.values.now))
    (IsPermutation-map tree c.in_ok-ascending.ascending.items sorted c.sort_unstable_by.ensures.permutation)
