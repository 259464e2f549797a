-- What a test let pass, and what it refused.
use Rattle.std.proofs.Common.{◌≡◌, Bool, true, false, Result, Ok, Err, refl}
use Rattle.outcome.specs.Outcome.{unless}

pub passed : {X E : Type 0} (b : Bool) (r : E) (x t : X) → unless b r (Ok x) ≡ Ok t → (b ≡ false) × (x ≡ t)
passed true r x t e = absurd cc
passed false r x t e = (refl, cc)

pub held_back : {X Y E : Type 0} (b : Bool) (r f : E) (x : X) (y : Result Y E) → unless b r (Ok x) ≡ Err f → unless b r y ≡ Err f
held_back true r f x y e = cc
held_back false r f x y e = absurd cc
