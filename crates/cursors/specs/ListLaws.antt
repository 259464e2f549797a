-- Lists of which something is removed, and what a function makes of each element.
use Rattle.std.proofs.Common.{◌≡◌, ℕ, zero, suc, ◌+◌, ◌<◌, ◌≤◌, Bool, true, false, List, [], ◌∷◌}
use Rattle.std.proofs.Common.{length, map, refl, sym}
use Rattle.std.proofs.Common.{ap, ◌∙◌, arith}
use Rattle.std.specs.Prelude.{not, ◌||◌, Some, None, remove, nat_lt, if◌then◌else◌}
use Rattle.std.specs.List.{filter, list_any, position, position_or_len}
use Rattle.std.proofs.lemmas.Bool.Decides.{nat_tests}
use Rattle.std.proofs.lemmas.List.{length-map}
use Rattle.std.proofs.lemmas.Option.{cond_some}

module _ {X Y : Type 0} (f : X → Y) where
  pub map-remove : (xs : List X) (i : ℕ) → map f (remove xs i) ≡ remove (map f xs) i
  map-remove [] zero = refl
  map-remove [] (suc i) = refl
  map-remove (x ∷ xs) zero = refl
  map-remove (x ∷ xs) (suc i) = ap (λ (ys : List Y). f x ∷ ys) (map-remove xs i)

  filter_step : (x : X) (ys : List Y) (xs : List X) → ys ≡ map f xs → (b : Bool)
      → (if b then f x ∷ ys else ys) ≡ map f (if b then x ∷ xs else xs)
  filter_step x ys xs e true = ap (λ (zs : List Y). f x ∷ zs) e
  filter_step x ys xs e false = e

  pub filter-map : (p : Y → Bool) (xs : List X)
      → filter p (map f xs) ≡ map f (filter (λ x. p (f x)) xs)
  filter-map p [] = refl
  filter-map p (x ∷ xs) =
      filter_step x (filter p (map f xs)) (filter (λ x. p (f x)) xs) (filter-map p xs) (p (f x))

  pub list_any-map : (p : Y → Bool) (xs : List X)
      → list_any p (map f xs) ≡ list_any (λ x. p (f x)) xs
  list_any-map p [] = refl
  list_any-map p (x ∷ xs) = ap (λ (b : Bool). p (f x) || b) (list_any-map p xs)

  place-map : (p : Y → Bool) (xs : List X)
      → position_or_len p (map f xs) ≡ position_or_len (λ x. p (f x)) xs
  place-map p [] = refl
  place-map p (x ∷ xs) = ap (λ (n : ℕ). if not (p (f x)) then 1 + n else 0) (place-map p xs)

  pub position-map : (p : Y → Bool) (xs : List X)
      → position p (map f xs) ≡ position (λ x. p (f x)) xs
  position-map p xs = λ k. if nat_lt (place-map p xs k) (length-map xs f k)
      then Some (place-map p xs k) else None

-- ---- the first element that passes is removed

module _ {X : Type 0} (p : X → Bool) where
  abbrev first : List X → ℕ
  first xs = position_or_len p xs

  abbrev others : List X → List X
  others xs = filter (λ x. not (p x)) xs

  first_goes : (x : X) (xs : List X) (b : Bool) → p x ≡ b
      → (first xs < length xs → others (remove xs (first xs)) ≡ others xs)
      → (if not b then 1 + first xs else 0) < suc (length xs)
      → others (remove (x ∷ xs) (if not b then 1 + first xs else 0)) ≡ others (x ∷ xs)
  first_goes x xs true is later h =
      ap (λ (b : Bool). if not b then x ∷ others xs else others xs) (sym is)
  first_goes x xs false is later h =
      let next : 1 + first xs ≡ suc (first xs) = omega arith in
      ap (λ (i : ℕ). others (remove (x ∷ xs) i)) next
      ∙ ap (λ (ys : List X). if not (p x) then x ∷ ys else ys) (later (omega (arith, h)))

  without_first : (xs : List X) → first xs < length xs
      → others (remove xs (first xs)) ≡ others xs
  without_first [] h = absurd (omega (arith, h))
  without_first (x ∷ xs) h = first_goes x xs (p x) refl (without_first xs) h

  all_stay : (x : X) (xs : List X) (b : Bool) → p x ≡ b
      → (length xs ≤ first xs → others xs ≡ xs)
      → suc (length xs) ≤ (if not b then 1 + first xs else 0) → others (x ∷ xs) ≡ x ∷ xs
  all_stay x xs true is later h = absurd (omega (arith, h))
  all_stay x xs false is later h =
      ap (λ (b : Bool). if not b then x ∷ others xs else others xs) is
      ∙ ap (λ (ys : List X). x ∷ ys) (later (omega (arith, h)))

  none_first : (xs : List X) → length xs ≤ first xs → others xs ≡ xs
  none_first [] h = refl
  none_first (x ∷ xs) h = all_stay x xs (p x) refl (none_first xs) h

  -- all others are left
  pub others_stay : (xs : List X) (at : ℕ) → position p xs ≡ Some at
      → filter (λ x. not (p x)) (remove xs at) ≡ filter (λ x. not (p x)) xs
  others_stay xs at e =
      let found = cond_some (nat_lt (first xs) (length xs)) (first xs) at e in
      ap (λ (i : ℕ). others (remove xs i)) (sym found.1)
      ∙ without_first xs (grind (arith, nat_tests, found.0))

  past : (xs : List X) (b : Bool) → nat_lt (first xs) (length xs) ≡ b
      → (if b then Some (first xs) else None) ≡ None → length xs ≤ first xs
  past xs true is e = absurd cc
  past xs false is e = grind (arith, nat_tests)

  pub none_passes : (xs : List X) → position p xs ≡ None → filter (λ x. not (p x)) xs ≡ xs
  none_passes xs e = none_first xs (past xs (nat_lt (first xs) (length xs)) refl e)
