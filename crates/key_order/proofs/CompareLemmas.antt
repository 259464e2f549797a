-- Keys that are compared by eight bytes at a time.
use Rattle.std.proofs.Common.{◌≡◌, ◌⊎◌, inl, inr, ℕ, ◌<◌, ◌≤◌, ◌^◌, List, ◌++◌, take, get_or, refl, sym, subst, ◌∙◌, arith}
use Rattle.std.specs.Int.{w64, to_be_bytes}
use Rattle.std.specs.Ordering.{nat_cmp, ordering_then, MatchOrdering}
use Rattle.std.specs.Cmp.{ranks}
use Rattle.std.specs.declared.cmp.Ordering.{Ordering}
use Rattle.std.specs.declared.cmp.Ordering.TheVariants.{Less, Equal, Greater}
use Rattle.std.specs.Cmp.Lexicographic.{slice_cmp}
use Rattle.std.proofs.Math.Nat.{mod-eq_of_lt}
use Rattle.std.proofs.lemmas.Bool.{cases_lt}
use Rattle.std.proofs.lemmas.List.{length-take, get_or-take, get_or_past}
use Rattle.key_order.proofs.NumberLaws.{SortsAs-bytes}

-- numbers in front, and what follows
pub numbers_first : (m n : ℕ) (x y : List ℕ) → m < 2 ^ 64 → n < 2 ^ 64
    → slice_cmp nat_cmp (to_be_bytes w64 m ++ x) (to_be_bytes w64 n ++ y) ≡ ordering_then (nat_cmp m n) (slice_cmp nat_cmp x y)
numbers_first m n x y low high =
    let a : m < 256 ^ 8 = omega (arith, low) in
    let b : n < 256 ^ 8 = omega (arith, high) in
    (SortsAs-bytes m n 8).decides x y ∙ (λ i. ordering_then (nat_cmp (mod-eq_of_lt a i) (mod-eq_of_lt b i)) (slice_cmp nat_cmp x y))

-- the first of two bytes or of two numbers that differ decide
decides : (m n : ℕ) (o : Ordering) → (m ≡ n → ⊥) → ordering_then (nat_cmp m n) o ≡ nat_cmp m n
decides m n o differ = by (nat_cmp m n) (ranks m n)
  where
    by : (c : Ordering) → MatchOrdering c (m < n) (m ≡ n) (n < m) → ordering_then c o ≡ c
    by Less h = refl
    by Equal h = absurd (differ h)
    by Greater h = refl

-- numbers that differ
pub differ_first : (m n : ℕ) (x y : List ℕ) → m < 2 ^ 64 → n < 2 ^ 64 → (m ≡ n → ⊥)
    → nat_cmp m n ≡ slice_cmp nat_cmp (to_be_bytes w64 m ++ x) (to_be_bytes w64 n ++ y)
differ_first m n x y low high differ = sym (numbers_first m n x y low high ∙ decides m n (slice_cmp nat_cmp x y) differ)

-- the bytes at the front are bytes
pub fits_in_front : (k : ℕ) (bytes front : List ℕ) → front ≡ take k bytes → ((i : ℕ) → get_or bytes i 0 < 256) → (i : ℕ) → get_or front i 0 < 256
fits_in_front k bytes front is fits i = subst (λ (xs : List ℕ). get_or xs i 0 < 256) (sym is) (by (cases_lt i k))
  where
    by : (i < k) ⊎ (k ≤ i) → get_or (take k bytes) i 0 < 256
    by (inl lt) = subst (λ (b : ℕ). b < 256) (sym (get_or-take k bytes i 0 lt)) (fits i)
    by (inr le) = subst (λ (b : ℕ). b < 256) (sym (get_or_past (take k bytes) i 0 (omega (arith, length-take k bytes, le)))) (omega arith)
