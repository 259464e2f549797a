-- What is put where no field or no value is left.
use Rattle.std.proofs.Common.{◌≡◌, ℕ, zero, suc, ◌≤◌, List, [], ◌∷◌, ◌++◌, length, drop, Option, Some, None, Result, Ok, Err, refl, sym, ap, ◌∙◌, arith}
use Rattle.std.proofs.Common.{append-nil}
use Rattle.std.specs.Prelude.{OnOk, slice_get}
use Rattle.std.specs.Borrow.{Bor}
use Rattle.bson.specs.declared.value.Value.{Value}
use Rattle.index.specs.Definition.{Field}
use Rattle.plan_model.specs.Usable.{Bound}
use Rattle.planner.specs.KeyRange.{front_text}
use Rattle.planner.specs.KeySpan.{least_end, least_text}
use Rattle.planner.specs.View.{values_of}

pub on_ok_more : {A E : Type 0} {P Q : Type 0} (r : Result A E) → (P → Q) → OnOk r P → OnOk r Q
on_ok_more (Ok a) more h = more h
on_ok_more (Err e) more h = h

-- ---- the ends

least_nowhere : (low high : Option Bound) (fs : List Field) (i : ℕ) → None ≡ slice_get fs i → [] ≡ least_text low high (drop i fs)
least_nowhere low high [] zero e = refl
least_nowhere low high [] (suc i) e = refl
least_nowhere low high (f ∷ fs) zero e = absurd cc
least_nowhere low high (f ∷ fs) (suc i) e = least_nowhere low high fs i e

pub nothing_put : (low high : Option Bound) (fs : List Field) (i : ℕ) (out : List ℕ) → None ≡ slice_get fs i → out ≡ out ++ least_text low high (drop i fs)
nothing_put low high fs i out e = sym (append-nil out) ∙ ap (λ (t : List ℕ). out ++ t) (least_nowhere low high fs i e)

pub least_here : (low high : Option Bound) (fs : List Field) (i : ℕ) (f : Field) → Some f ≡ slice_get fs i
    → least_end f.direction low high ≡ least_text low high (drop i fs)
least_here low high [] zero f e = absurd cc
least_here low high [] (suc i) f e = absurd cc
least_here low high (g ∷ fs) zero f e = let same : f ≡ g = cc in ap (λ (h : Field). least_end h.direction low high) same
least_here low high (g ∷ fs) (suc i) f e = least_here low high fs i f e

-- ---- the front

front_of_none : (fs : List Field) → front_text fs [] ≡ []
front_of_none [] = refl
front_of_none (f ∷ fs) = refl

no_values_left : (os : List (Option (Bor Value))) (i : ℕ) → length os ≤ i → values_of (drop i os) ≡ []
no_values_left [] zero past = refl
no_values_left [] (suc i) past = refl
no_values_left (o ∷ os) zero past = absurd (omega (arith, past))
no_values_left (o ∷ os) (suc i) past = no_values_left os i (omega (arith, past))

pub all_put : (os : List (Option (Bor Value))) (i : ℕ) (fs : List Field) (out whole : List ℕ) → length os ≤ i
    → out ++ front_text fs (values_of (drop i os)) ≡ whole → out ≡ whole
all_put os i fs out whole past e =
    sym (append-nil out) ∙ ap (λ (p : List ℕ). out ++ p) (sym (ap (front_text fs) (no_values_left os i past) ∙ front_of_none fs)) ∙ e
