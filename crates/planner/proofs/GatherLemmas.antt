-- What conditions ask, gathered one after the other.
use Rattle.std.proofs.Common.{◌≡◌, ℕ, zero, suc, ◌+◌, ◌<◌, ◌≤◌, List, [], ◌∷◌, length, get_or, drop, Option, Some, None, refl, sym, ap, ◌∙◌, arith}
use Rattle.std.specs.Option.{option_or}
use Rattle.filter.specs.Condition.{Condition}
use Rattle.filter.specs.View.{condition_of, conditions_of}
use Rattle.filter.specs.declared.condition.Condition.{Condition as Made}
use Rattle.plan_model.specs.Usable.{Usable, nothing, or, gather}

or_in_turn : {X : Type 0} (a b c : Option X) → option_or (option_or a b) c ≡ option_or a (option_or b c)
or_in_turn None b c = refl
or_in_turn (Some x) b c = refl

or_none : {X : Type 0} (a : Option X) → option_or a None ≡ a
or_none None = refl
or_none (Some x) = refl

in_turn : (u v w : Usable) → or (or u v) w ≡ or u (or v w)
in_turn u v w = λ i. record {
  equal = or_in_turn u.equal v.equal w.equal i;
  low = or_in_turn u.low v.low w.low i;
  high = or_in_turn u.high v.high w.high i;
}

or_nothing : (u : Usable) → or u nothing ≡ u
or_nothing u = λ i. record { equal = or_none u.equal i; low = or_none u.low i; high = or_none u.high i }

from_here : (give : Condition → Usable) (items : List Made) (k : ℕ) (c : Made) → k < length items → c ≡ get_or items k c
    → gather give (conditions_of (drop k items)) ≡ or (give (condition_of c)) (gather give (conditions_of (drop (suc k) items)))
from_here give [] k c within there = absurd (omega (arith, within))
from_here give (d ∷ items) zero c within there = ap (λ (x : Made). or (give (condition_of x)) (gather give (conditions_of items))) (sym there)
from_here give (d ∷ items) (suc k) c within there = from_here give items k c (omega (arith, within)) there

-- one condition more
pub gather_more : (give : Condition → Usable) (items : List Made) (k : ℕ) (c : Made) (u v all : Usable) → k < length items → c ≡ get_or items k c
    → v ≡ or u (give (condition_of c)) → or u (gather give (conditions_of (drop k items))) ≡ all → or v (gather give (conditions_of (drop (k + 1) items))) ≡ all
gather_more give items k c u v all within there made so_far =
    let next : k + 1 ≡ suc k = omega arith in
    let rest = gather give (conditions_of (drop (suc k) items)) in
    ap (λ (n : ℕ). or v (gather give (conditions_of (drop n items)))) next
    ∙ ap (λ (w : Usable). or w rest) made
    ∙ in_turn u (give (condition_of c)) rest
    ∙ sym (ap (or u) (from_here give items k c within there))
    ∙ so_far

none_left : (give : Condition → Usable) (items : List Made) (k : ℕ) → length items ≤ k → gather give (conditions_of (drop k items)) ≡ nothing
none_left give [] zero past = refl
none_left give [] (suc k) past = refl
none_left give (c ∷ items) zero past = absurd (omega (arith, past))
none_left give (c ∷ items) (suc k) past = none_left give items k (omega (arith, past))

-- no condition is left
pub gather_done : (give : Condition → Usable) (items : List Made) (k : ℕ) (u all : Usable) → length items ≤ k
    → or u (gather give (conditions_of (drop k items))) ≡ all → u ≡ all
gather_done give items k u all past so_far = sym (or_nothing u) ∙ sym (ap (or u) (none_left give items k past)) ∙ so_far
