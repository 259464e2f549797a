-- What a function gives of each member of a list, one behind the other, or the first refusal.
use Rattle.std.specs.Prelude.{◌++◌, Result, Ok, List, [], ◌∷◌}
use Rattle.outcome.specs.Outcome.{◌>>=◌}
use Rattle.path.specs.declared.refusal.Refusal.{Refusal}

abbrev pub just : {X : Type 0} → Result X Refusal → Result (List X) Refusal
just one = one >>= (λ x. Ok (x ∷ []))

abbrev pub behind : {X : Type 0} → List X → Result (List X) Refusal → Result (List X) Refusal
behind before more = more >>= (λ xs. Ok (before ++ xs))

abbrev pub each : {X Y : Type 0} → (X → Result (List Y) Refusal) → List X → Result (List Y) Refusal
each give [] = Ok []
each give (x ∷ xs) = give x >>= (λ ys. behind ys (each give xs))
