-- Each key has a place among others that rise.
use Rattle.std.proofs.Common.{◌≡◌, ◌⊎◌, inl, inr, ℕ, zero, suc, ◌<◌, ◌≤◌, List, [], ◌∷◌, length, get_or, refl, arith}
use Rattle.std.specs.Cmp.{IsTotalOrder}
use Rattle.std.specs.declared.cmp.Ordering.{Ordering}
use Rattle.std.specs.declared.cmp.Ordering.TheVariants as orders
use Rattle.database_model.specs.Places.{IsGap}
use Rattle.database_model.proofs.Ordered.{Rises, flipped, rises_tail}

abbrev pub Gap : {X K : Type 0} → (K → K → Ordering) → (X → K) → List X → K → Type 0
Gap R key xs x = (i : ℕ) × IsGap (λ y. R (key y) x) xs i

-- an element of this key stands somewhere
pub record There {X K : Type 0} (R : K → K → Ordering) (key : X → K) (xs : List X) (x : K) : Type 0 where
  pub place : ℕ
  pub within : place < length xs
  pub same : (d : X) → R (key (get_or xs place d)) x ≡ orders.Equal

pub located : {X K : Type 0} {R : K → K → Ordering} (o : IsTotalOrder R) (key : X → K) (xs : List X) (x : K) → Rises R key xs
    → Gap R key xs x ⊎ There R key xs x
located o key [] x up = inl (0, record { within = omega arith; before = λ k d low high. absurd (omega arith); after = λ k d low high. absurd (omega arith) })
located {X} {K} {R} o key (y ∷ ys) x up = at (R (key y) x) refl (located o key ys x (rises_tail R key y ys up))
  where
    at : (r : Ordering) → R (key y) x ≡ r → Gap R key ys x ⊎ There R key ys x → Gap R key (y ∷ ys) x ⊎ There R key (y ∷ ys) x
    at orders.Less e (inl g) = inl (
      suc g.0,
      record {
        within = omega (arith, g.1.within);
        before = λ k d low high. before k d high;
        after = λ k d low high. after k d low high;
      },
    )
      where
        before : (k : ℕ) (d : X) → k < suc g.0 → R (key (get_or (y ∷ ys) k d)) x ≡ orders.Less
        before zero d high = e
        before (suc k) d high = g.1.before k d (omega arith) (omega arith)

        after : (k : ℕ) (d : X) → suc g.0 ≤ k → k < length (y ∷ ys) → R (key (get_or (y ∷ ys) k d)) x ≡ orders.Greater
        after zero d low high = absurd (omega arith)
        after (suc k) d low high = g.1.after k d (omega arith) (omega arith)
    at orders.Less e (inr t) = inr (record { place = suc t.place; within = omega (arith, t.within); same = t.same })
    at orders.Equal e later = inr (record { place = 0; within = omega arith; same = λ d. e })
    at orders.Greater e later = inl (0, record { within = omega arith; before = λ k d low high. absurd (omega arith); after = λ k d low high. above k d high })
      where
        above : (k : ℕ) (d : X) → k < length (y ∷ ys) → R (key (get_or (y ∷ ys) k d)) x ≡ orders.Greater
        above zero d high = e
        above (suc k) d high =
            let less : R x (key (get_or ys k d)) ≡ orders.Less =
            o.trans x (key y) (key (get_or ys k d)) (flipped o (key y) x orders.Greater e) (up 0 (suc k) d (omega arith) high) in
            flipped o x (key (get_or ys k d)) orders.Less less
