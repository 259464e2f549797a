use Rattle.std.proofs.Common.{◌≡◌, ◌≢◌, ℕ, zero, suc, Bool, false, List, ◌∷◌, Option, inl, inr, refl, sym, ap, ◌∙◌}
use Rattle.std.specs.Prelude.{◌==◌, if◌then◌else◌}
use Rattle.std.proofs.lemmas.Bool.Decides.{eqb_tells}
use Rattle.value_order.specs.declared.texts.Direction.{Direction}
use Rattle.planner.specs.KeyScan.{plain, behind_scalar, behind_value, behind_pairs, behind_items, by_class}
use Rattle.planner.proofs.key_scan.+scanning.Goals as goal

not_same : (a b : ℕ) → a ≢ b → (a == b) ≡ false
not_same a b h = elim (eqb_tells a b) [ inl p ↦ absurd (h p.1) | inr p ↦ p.0 ]

by_other : (class : ℕ) (a b c : Option (List ℕ)) → class ≢ 0x50 → class ≢ 0x60 → c ≡ by_class class a b c
by_other class a b c h g =
    sym (ap (λ (t : Bool). if t then a else if class == 0x60 then b else c) (not_same class 0x50 h)
    ∙ ap (λ (t : Bool). if t then b else c) (not_same class 0x60 g))

-- the class of a value that holds no other
scalar_step : (d : Direction) (steps byte class : ℕ) (rest text : List ℕ) → steps ≢ 0 → text ≡ byte ∷ rest → class ≡ plain d byte → class ≢ 0x50 → class ≢ 0x60
    → behind_scalar d class rest ≡ behind_value d steps text
scalar_step d zero byte class rest text some is same h g = absurd (some refl)
scalar_step d (suc steps) byte class rest text some is same h g =
    by_other class (behind_pairs d steps rest) (behind_items d steps rest) (behind_scalar d class rest) h g
    ∙ (λ i. by_class (same i) (behind_pairs d steps rest) (behind_items d steps rest) (behind_scalar d (same i) rest))
    ∙ ap (behind_value d (suc steps)) (sym is)

pub behind_value-returns : goal.behind_value-returns
behind_value-returns t c =
    c.behind_scalar.ensures
    ∙ scalar_step c.args.direction c.args.steps c.in_ok-byte.byte.now c.plain-class.result c.in_ok-byte.rest.now c.args.text.now c.if-steps-eq0.false
    c.in_ok-byte.ensures.cases.0 c.plain-class.ensures
    c.if-class-eq80.false c.if-class-eq96.false
