-- Steps of a search, counted down.
use Rattle.std.proofs.Common.{◌≡◌, ℕ, suc, ◌+◌, ◌-◌, ◌<◌, ◌≤◌, List, None, refl, ap, sym, ◌∙◌, arith}
use Rattle.driver_messages.specs.Seeking.{Place, Seek, step, seek, on}

one_more : (n : ℕ) (place : Place) (bytes : List ℕ) → seek (suc n) place bytes ≡ on (seek n) (step place bytes)
unfolding seek
one_more n place bytes = refl

none : (place : Place) (bytes : List ℕ) → seek 0 place bytes ≡ None
unfolding seek
none place bytes = refl

-- what a step finds with so many left
pub one_step : (most i : ℕ) (place : Place) (bytes : List ℕ) (found : Seek) → i < most → found ≡ step place bytes
    → on (seek (most - (i + 1))) found ≡ seek (most - i) place bytes
one_step most i place bytes found h is =
    let left : most - i ≡ suc (most - (i + 1)) = omega arith in
    ap (on (seek (most - (i + 1)))) is ∙ sym (one_more (most - (i + 1)) place bytes) ∙ sym (ap (λ (n : ℕ). seek n place bytes) left)

pub no_step : (most i : ℕ) (place : Place) (bytes : List ℕ) → most ≤ i → None ≡ seek (most - i) place bytes
no_step most i place bytes h =
    let left : most - i ≡ 0 = omega arith in
    sym (ap (λ (n : ℕ). seek n place bytes) left ∙ none place bytes)
