-- What cursors pin, where one of a list comes, changes or goes.
use Rattle.std.proofs.Common.{◌≡◌, ℕ, zero, suc, ◌+◌, ◌<◌, List, [], ◌∷◌, ◌++◌, length, Option, Some, None, refl, ap, arith}
use Rattle.std.specs.Prelude.{slice_index_or, slice_set, remove}
use Rattle.std.specs.List.{AllByRecursion}
use Rattle.tree_model.specs.Keys.{times}
use Rattle.cursors.specs.Held.{HeldCursor, HeldWalk, no_held_cursor}
use Rattle.pinned_cursors.specs.Tied.{pins_by, with_pin}

-- ---- of each one

module _ {X : Type 0} (P : X → Type 0) where
  pub each_at : (xs : List X) (i : ℕ) (d : X) → i < length xs → AllByRecursion P xs → P (slice_index_or xs i d)
  each_at [] i d below h = absurd (omega (arith, below))
  each_at (x ∷ xs) zero d below h = h.0
  each_at (x ∷ xs) (suc i) d below h = each_at xs i d (omega (arith, below)) h.1

  pub each_removed : (xs : List X) (i : ℕ) → AllByRecursion P xs → AllByRecursion P (remove xs i)
  each_removed [] zero h = tt
  each_removed [] (suc i) h = tt
  each_removed (x ∷ xs) zero h = h.1
  each_removed (x ∷ xs) (suc i) h = (h.0, each_removed xs i h.1)

  pub each_set : (xs : List X) (i : ℕ) (x : X) → P x → AllByRecursion P xs → AllByRecursion P (slice_set xs i x)
  each_set [] i x p h = tt
  each_set (y ∷ xs) zero x p h = (p, h.1)
  each_set (y ∷ xs) (suc i) x p h = (h.0, each_set xs i x p h.1)

  pub each_added : (xs : List X) (x : X) → P x → AllByRecursion P xs → AllByRecursion P (xs ++ x ∷ [])
  each_added [] x p h = (p, tt)
  each_added (y ∷ xs) x p h = (h.0, each_added xs x p h.1)

-- ---- what is pinned

module _ (n : ℕ) where
  pub with_more : (walk : Option HeldWalk) (pins : List ℕ) → times n (with_pin walk pins) ≡ times n (with_pin walk []) + times n pins
  with_more None pins = omega arith
  with_more (Some w) pins = omega arith

  pub pins_removed : (hs : List HeldCursor) (i : ℕ) → i < length hs
      → times n (pins_by hs) ≡ times n (with_pin (slice_index_or hs i no_held_cursor).walk (pins_by (remove hs i)))
  pins_removed [] i below = absurd (omega (arith, below))
  pins_removed (h ∷ hs) zero below = refl
  pins_removed (h ∷ hs) (suc i) below =
      let at = (slice_index_or hs i no_held_cursor).walk in
      let rest = pins_by (remove hs i) in
      omega (
        arith,
        pins_removed hs i (omega (arith, below)),
        with_more h.walk (pins_by hs),
        with_more h.walk rest,
        with_more at rest,
        with_more at (with_pin h.walk rest),
      )

  pub pins_set : (hs : List HeldCursor) (i : ℕ) (x : HeldCursor) → i < length hs
      → with_pin x.walk [] ≡ with_pin (slice_index_or hs i no_held_cursor).walk [] → times n (pins_by (slice_set hs i x)) ≡ times n (pins_by hs)
  pins_set [] i x below same = absurd (omega (arith, below))
  pins_set (h ∷ hs) zero x below same = omega (arith, with_more x.walk (pins_by hs), with_more h.walk (pins_by hs), ap (times n) same)
  pins_set (h ∷ hs) (suc i) x below same =
      omega (arith, pins_set hs i x (omega (arith, below)) same, with_more h.walk (pins_by hs), with_more h.walk (pins_by (slice_set hs i x)))

  pub pins_added : (hs : List HeldCursor) (x : HeldCursor) → times n (pins_by (hs ++ x ∷ [])) ≡ times n (with_pin x.walk (pins_by hs))
  pins_added [] x = refl
  pins_added (h ∷ hs) x =
      omega (
        arith,
        pins_added hs x,
        with_more h.walk (pins_by (hs ++ x ∷ [])),
        with_more h.walk (pins_by hs),
        with_more x.walk (pins_by hs),
        with_more x.walk (with_pin h.walk (pins_by hs)),
      )
