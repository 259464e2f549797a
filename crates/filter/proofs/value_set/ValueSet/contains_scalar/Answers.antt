use Rattle.std.proofs.Common.{◌∙◌, rules, ap, sym, subst, map, List}
use Rattle.std.specs.List.Sorted.{IsSortedByKey, IsBinarySearchResult}
use Rattle.std.specs.Ordering.{ordering_reverse}
use Rattle.std.proofs.lemmas.Fn.{always_returns_same}
use Rattle.bson.specs.Tree.{scalar}
use Rattle.bson.specs.Lent.{scalar_of}
use Rattle.bson.specs.View.{tree}
use Rattle.bson.specs.declared.value.Value.{Value}
use Rattle.value_order.specs.Order.{compare}
use Rattle.value_order.specs.TotalLaws.{compare_total}
use Rattle.filter.specs.Among.{is_among}
use Rattle.filter.proofs.AmongLemmas.{search_told}
use Rattle.filter.proofs.value_set.ValueSet.contains_scalar.Goals as goal

pub returns : goal.returns
returns c =
    let t = scalar (scalar_of c.args.value.now) in
    let found = c.binary_search_by.ensures.position (λ v. ordering_reverse (compare t (tree v))) (always_returns_same _ _ _ (λ a r f k. search rules)) in
    c.is_ok.ensures.value
    ∙ search_told c.deref.result.now t c.binary_search_by.result
    (subst (IsSortedByKey tree compare) (sym c.deref.ensures.value) c.self.invariant)
    c.binary_search_by.ensures.bound
    (subst (λ order. IsBinarySearchResult order c.deref.result.now c.binary_search_by.result) (λ i v. sym (compare_total.antisymm (tree v) t) i) found)
    ∙ ap (λ (vs : List Value). is_among (map tree vs) t) c.deref.ensures.value
    ∙ ap (λ vs. is_among vs t) c.self.view_is
