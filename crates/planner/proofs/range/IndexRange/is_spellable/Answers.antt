use Rattle.std.proofs.Common.{◌≡◌, List, [], ◌∷◌, Option, Some, None, Bor, subst}
use Rattle.std.specs.Prelude.{All, IfSome, option_map}
use Rattle.std.specs.List.{AllByRecursion}
use Rattle.std.proofs.lemmas.List.Elements.{All-cons, All-nil}
use Rattle.bson.specs.View.{tree}
use Rattle.bson.specs.declared.value.Value.{Value}
use Rattle.value_order.specs.Laws.{IsKey}
use Rattle.value_order.specs.Order.{value as key_value}
use Rattle.planner.specs.KeyRange.{IsSpellable}
use Rattle.planner.specs.View.{bound_of, range_of, values_of}
use Rattle.planner.specs.declared.range.IndexRange.{IndexRange}
use Rattle.planner.specs.declared.usable.Bound.{Bound}
use Rattle.planner.proofs.range.IndexRange.is_spellable.Goals as goal

abbrev IsKeyed : Option (Bor Value) → Type 0
IsKeyed o = IfSome o (λ v. IsKey (key_value (tree v.now)))

all_keyed : (os : List (Option (Bor Value))) → AllByRecursion IsKeyed os → All (λ t. IsKey (key_value t)) (values_of os)
all_keyed [] h = All-nil (λ t. IsKey (key_value t))
all_keyed (None ∷ os) h = all_keyed os h.1
all_keyed (Some v ∷ os) h = All-cons (λ t. IsKey (key_value t)) (tree v.now) (values_of os) h.0 (all_keyed os h.1)

end_keyed : (o : Option Bound) → IsKeyed (option_map (λ b. b.operand) o) → IfSome (option_map bound_of o) (λ b. IsKey (key_value b.operand))
end_keyed None h = tt
end_keyed (Some b) h = h

spellable : (range : IndexRange) (low high : Option (Bor Value)) → low ≡ option_map (λ b. b.operand) range.low → high ≡ option_map (λ b. b.operand) range.high
    → AllByRecursion IsKeyed (range.equal.first ∷ range.equal.second ∷ range.equal.third ∷ range.equal.fourth ∷ low ∷ high ∷ [])
    → IsSpellable (range_of range)
spellable range low high is_low is_high all =
    let e = range.equal in
    record {
      equal_spelled = all_keyed (e.first ∷ e.second ∷ e.third ∷ e.fourth ∷ []) (all.0, (all.1.0, (all.1.1.0, (all.1.1.1.0, tt))));
      low_spelled = end_keyed range.low (subst IsKeyed is_low all.1.1.1.1.0);
      high_spelled = end_keyed range.high (subst IsKeyed is_high all.1.1.1.1.1.0);
    }

pub returns : goal.returns
returns c =
    λ is. spellable c.args.self.now c.operand.result c.operand-2.result c.operand.ensures c.operand-2.ensures (c.are_keys.ensures is)
