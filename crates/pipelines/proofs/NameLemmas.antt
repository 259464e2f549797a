-- A name that is fit has no zero byte.
use Rattle.std.proofs.Common.{◌≡◌, ℕ, Bool, true, false, List, [], ◌∷◌, refl, sym, ◌∙◌, eq-eqb}
use Rattle.std.proofs.lemmas.Bool.{false≢true}
use Rattle.std.specs.Prelude.{◌==◌, ◌||◌}
use Rattle.bson.specs.Lawful.{NoZero}
use Rattle.path.specs.Parts.{is_empty, begins_with_dollar, has_zero}
use Rattle.aggregate_model.specs.Names.{has_dot, is_unfit}

or_none : (a b : Bool) → (a || b) ≡ false → (a ≡ false) × (b ≡ false)
or_none true b e = absurd cc
or_none false b e = (refl, e)

no_zero : (name : List ℕ) → has_zero name ≡ false → NoZero name
no_zero [] e = tt
no_zero (b ∷ bs) e =
    let p = or_none (b == 0) (has_zero bs) e in
    (λ same. false≢true (sym p.0 ∙ eq-eqb b 0 same), no_zero bs p.1)

pub fit_no_zero : (name : List ℕ) → is_unfit name ≡ false → NoZero name
fit_no_zero name e = no_zero name (or_none (is_empty name || begins_with_dollar name || has_dot name) (has_zero name) e).1
