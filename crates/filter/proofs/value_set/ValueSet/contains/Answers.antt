use Rattle.std.proofs.Common.{◌∙◌, rules, ap, sym, subst, map, List}
use Rattle.std.specs.List.Sorted.{IsSortedByKey}
use Rattle.std.proofs.lemmas.Fn.{always_returns_same}
use Rattle.bson.specs.View.{tree}
use Rattle.bson.specs.declared.value.Value.{Value}
use Rattle.value_order.specs.Order.{compare}
use Rattle.filter.specs.Among.{is_among}
use Rattle.filter.proofs.AmongLemmas.{search_told}
use Rattle.filter.proofs.value_set.ValueSet.contains.Goals as goal

pub returns : goal.returns
returns c =
    let t = tree c.args.value.now in
    c.is_ok.ensures.value
    ∙ search_told c.deref.result.now t c.binary_search_by.result
    (subst (IsSortedByKey tree compare) (sym c.deref.ensures.value) c.self.invariant)
    c.binary_search_by.ensures.bound
    (c.binary_search_by.ensures.position (λ v. compare (tree v) t) (always_returns_same _ _ _ (λ a r f k. search rules)))
    ∙ ap (λ (vs : List Value). is_among (map tree vs) t) c.deref.ensures.value
    ∙ ap (λ vs. is_among vs t) c.self.view_is
