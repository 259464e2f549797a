-- What stands in a list.
use Rattle.std.proofs.Common.{◌≡◌, ℕ, zero, suc, ◌<◌, List, [], ◌∷◌, ◌++◌, length, map, get_or, ◌⊎◌, inl, inr, refl, sym, subst, ◌∙◌, arith}
use Rattle.std.specs.Prelude.{Contains, All}
use Rattle.std.specs.List.{flat_map, AllPairs}

abbrev pub Among : {X : Type 0} → X → List X → Type 0
Among x [] = ⊥
Among x (y ∷ ys) = (x ≡ y) ⊎ Among x ys

pub among_of : {X : Type 0} (xs : List X) (x : X) → Contains xs x → Among x xs
among_of [] x h = absurd (omega (arith, h.1))
among_of (y ∷ ys) x h = at h.0 h.1 h.2 (among_of ys x)
  where
    at : (k : ℕ) → k < length (y ∷ ys) → get_or (y ∷ ys) k x ≡ x → (Contains ys x → Among x ys) → Among x (y ∷ ys)
    at zero below is later = inl (sym is)
    at (suc k) below is later = inr (later (k, omega (arith, below), is))

pub contains_of : {X : Type 0} (xs : List X) (x : X) → Among x xs → Contains xs x
contains_of [] x h = absurd h
contains_of (y ∷ ys) x (inl e) = (0, omega arith, sym e)
contains_of (y ∷ ys) x (inr h) =
    let later = contains_of ys x h in (suc later.0, omega (arith, later.1), later.2)

-- ---- lists made of others

pub among_append : {X : Type 0} (x : X) (xs ys : List X) → Among x (xs ++ ys) → Among x xs ⊎ Among x ys
among_append x [] ys h = inr h
among_append x (y ∷ xs) ys (inl e) = inl (inl e)
among_append x (y ∷ xs) ys (inr h) = elim (among_append x xs ys h) [ inl g ↦ inl (inr g) | inr g ↦ inr g ]

pub among_front : {X : Type 0} (x : X) (xs ys : List X) → Among x xs → Among x (xs ++ ys)
among_front x [] ys h = absurd h
among_front x (y ∷ xs) ys (inl e) = inl e
among_front x (y ∷ xs) ys (inr h) = inr (among_front x xs ys h)

pub among_back : {X : Type 0} (x : X) (xs ys : List X) → Among x ys → Among x (xs ++ ys)
among_back x [] ys h = h
among_back x (y ∷ xs) ys h = inr (among_back x xs ys h)

pub among_map : {X Y : Type 0} (f : X → Y) (y : Y) (xs : List X) → Among y (map f xs) → (x : X) × Among x xs × (y ≡ f x)
among_map f y [] h = absurd h
among_map f y (x ∷ xs) (inl e) = (x, inl refl, e)
among_map f y (x ∷ xs) (inr h) = let later = among_map f y xs h in (later.0, inr later.1, later.2)

pub among_image : {X Y : Type 0} (f : X → Y) (x : X) (xs : List X) → Among x xs → Among (f x) (map f xs)
among_image f x [] h = absurd h
among_image f x (y ∷ xs) (inl e) = inl (λ i. f (e i))
among_image f x (y ∷ xs) (inr h) = inr (among_image f x xs h)

pub among_flat : {X Y : Type 0} (f : X → List Y) (y : Y) (xs : List X) → Among y (flat_map f xs) → (x : X) × Among x xs × Among y (f x)
among_flat f y [] h = absurd h
among_flat {X} {Y} f y (x ∷ xs) h = by (among_append y (f x) (flat_map f xs) h) (among_flat f y xs)
  where
    by : Among y (f x) ⊎ Among y (flat_map f xs) → (Among y (flat_map f xs) → (z : X) × Among z xs × Among y (f z)) → (z : X) × Among z (x ∷ xs) × Among y (f z)
    by (inl here) rest = (x, inl refl, here)
    by (inr there) rest = let later = rest there in (later.0, inr later.1, later.2)

pub among_each : {X Y : Type 0} (f : X → List Y) (y : Y) (x : X) (xs : List X) → Among x xs → Among y (f x) → Among y (flat_map f xs)
among_each f y x [] h g = absurd h
among_each f y x (z ∷ xs) (inl e) g = among_front y (f z) (flat_map f xs) (subst (λ w. Among y (f w)) e g)
among_each f y x (z ∷ xs) (inr h) g = among_back y (f z) (flat_map f xs) (among_each f y x xs h g)

-- ---- what holds of all

pub of_all : {X : Type 0} (P : X → Type 0) (xs : List X) (x : X) → All P xs → Among x xs → P x
of_all P [] x h g = absurd g
of_all P (y ∷ ys) x h (inl e) = subst P (sym e) (h 0 y (omega arith))
of_all P (y ∷ ys) x h (inr g) = of_all P ys x (λ k d below. h (suc k) d (omega (arith, below))) g

-- the first is related to each behind it
pub first_of : {X : Type 0} (R : X → X → Type 0) (z : X) (zs : List X) (x : X) → AllPairs R (z ∷ zs) → Among x zs → R z x
first_of R z zs x h g =
    let at = contains_of zs x g in
    subst (R z) at.2 (h 0 (suc at.0) x (omega arith) (omega (arith, at.1)))

-- of two of a list where each is related to those behind it, they are one or one is before the other
pub of_pairs : {X : Type 0} (R : X → X → Type 0) (xs : List X) (x y : X) → AllPairs R xs → Among x xs → Among y xs → (x ≡ y) ⊎ (R x y ⊎ R y x)
of_pairs R [] x y h g k = absurd g
of_pairs R (z ∷ zs) x y h (inl e) (inl f) = inl (e ∙ sym f)
of_pairs R (z ∷ zs) x y h (inl e) (inr k) = inr (inl (subst (λ w. R w y) (sym e) (first_of R z zs y h k)))
of_pairs R (z ∷ zs) x y h (inr g) (inl f) = inr (inr (subst (λ w. R w x) (sym f) (first_of R z zs x h g)))
of_pairs R (z ∷ zs) x y h (inr g) (inr k) = of_pairs R zs x y (λ i j d lt below. h (suc i) (suc j) d (omega (arith, lt)) (omega (arith, below))) g k
