-- What a turn hands out, and to whom.
use Rattle.std.specs.Prelude.{◌≡◌, ℕ, List, [], ◌∷◌}

-- the replies are given in order, one after the other
abbrev pub Hands : {O : Type 0} → (O → ℕ → List ℕ → O → Type 0) → List (ℕ × List ℕ) → O → O → Type 0
Hands is_given [] before after = after ≡ before
Hands {O} is_given (r ∷ rs) before after =
    (next : O) × is_given before r.0 r.1 next × Hands is_given rs next after

-- these connections are closed, one after the other
abbrev pub Closes : {O : Type 0} → (O → ℕ → O → Type 0) → List ℕ → O → O → Type 0
Closes is_closed [] before after = after ≡ before
Closes {O} is_closed (c ∷ cs) before after =
    (next : O) × is_closed before c next × Closes is_closed cs next after

-- A service that answered: what its turn gave, each reply to its connection, and each connection
-- that it closed.
pub record Answers {S O : Type 0} (is_answered : S → List (ℕ × List ℕ) → List ℕ → S → Type 0)
    (is_given : O → ℕ → List ℕ → O → Type 0) (is_closed : O → ℕ → O → Type 0)
    (old new : S) (before after : O) : Type 0 where
  pub replies : List (ℕ × List ℕ)
  pub closed : List ℕ
  pub between : O
  pub turn : is_answered old replies closed new
  pub hands : Hands is_given replies before between
  pub closes : Closes is_closed closed between after
