use Rattle.std.proofs.Common.{◌≡◌, ℕ, Bool, true, false, ◌||◌, ◌==◌, List, [], ◌∷◌, refl, sym, subst}
use Rattle.std.proofs.lemmas.Bool.{eqb-true}
use Rattle.std.specs.List.{list_any}
use Rattle.bson.specs.Lawful.{NoZero}
use Rattle.driver_replies.proofs.distinct.field_alone.Goals as goal

zero_free : (name : List ℕ) → NoZero name → list_any (λ b. b == 0) name ≡ false
zero_free [] h = refl
zero_free (b ∷ bs) h = at (b == 0) refl (zero_free bs h.1)
  where
    at : (zero : Bool) → (b == 0) ≡ zero → list_any (λ b. b == 0) bs ≡ false → (zero || list_any (λ b. b == 0) bs) ≡ false
    at true is later = absurd (h.0 (eqb-true b 0 is))
    at false is later = later

pub put-requires-clause-name : goal.put-requires-clause-name
put-requires-clause-name c = zero_free c.as_str-name.result.now (subst NoZero (sym c.as_str-name.ensures.name) c.as_str-name.ensures.lawful.is_name.no_zero)
