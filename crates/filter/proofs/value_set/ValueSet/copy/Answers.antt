use Rattle.std.proofs.Common.{◌∙◌, ap, map, List}
use Rattle.bson.specs.View.{tree}
use Rattle.bson.specs.declared.value.Value.{Value}
use Rattle.filter.proofs.AmongLemmas.{sorted_alike}
use Rattle.filter.proofs.value_set.ValueSet.copy.Goals as goal

pub invariant_of-result : goal.invariant_of-result
invariant_of-result c =
    sorted_alike c.self.inside.ascending.items c.in_ok-ascending.ascending.items
    (c.in_ok-ascending.ensures ∙ ap (λ (vs : List Value). map tree vs) c.deref.ensures.value)
    c.self.invariant
