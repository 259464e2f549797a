-- What lay before a value that some steps led to.
use Rattle.std.specs.Prelude.{◌≡◌, Bool, true, false, Result, Ok, Err}
use Rattle.std.proofs.Common.{refl}
use Rattle.outcome.specs.Outcome.{◌>>=◌, unless}
use Rattle.path.specs.declared.refusal.Refusal.{Refusal}

-- a step that led to a value had one
pub step_of : {A B : Type 0} (r : Result A Refusal) (f : A → Result B Refusal) (y : B)
    → (r >>= f) ≡ Ok y → (x : A) × (r ≡ Ok x) × (f x ≡ Ok y)
step_of (Ok x) f y e = (x, refl, e)
step_of (Err r) f y e = absurd cc

pub passed : {X : Type 0} (test : Bool) (refusal : Refusal) (go : Result X Refusal) (y : X)
    → unless test refusal go ≡ Ok y → (test ≡ false) × (go ≡ Ok y)
passed true refusal go y e = absurd cc
passed false refusal go y e = (refl, e)
