-- Numbers in big-endian bytes order as the numbers do.
use Rattle.std.proofs.Common.{◌≡◌, ℕ, zero, suc, ◌+◌, ◌*◌, ◌^◌, ◌/◌, ◌%◌, ◌≤◌, ◌<◌, [], ◌∷◌, refl, sym, ◌∙◌, ap, arith}
use Rattle.std.proofs.Math.Nat.{mul-le-mul_right, pow-suc, pow-succ', div-one, mod-one, mod-lt}
use Rattle.std.proofs.Math.Arith.{mod-mul}
use Rattle.std.specs.declared.cmp.Ordering.{Ordering}
use Rattle.std.specs.declared.cmp.Ordering.TheVariants.{Less, Equal, Greater}
use Rattle.std.specs.Ordering.{ordering_then, nat_cmp, MatchOrdering}
use Rattle.std.specs.Cmp.{nat_cmp_is, ranks}
use Rattle.std.specs.Int.{bytes_high_first, byte_at}
use Rattle.key_order.specs.SortingLaws.{SortsAs, SortsAs-none, SortsAs-cell, SortsAs-is, SortsAs-append}

-- numbers of two digits in the base p
pub two_digits : (p a r b s : ℕ) → r < p → s < p → nat_cmp (a * p + r) (b * p + s) ≡ ordering_then (nat_cmp a b) (nat_cmp r s)
two_digits p a r b s low other = sym (nat_cmp_is (a * p + r) (b * p + s) _ (by (nat_cmp a b) (nat_cmp r s) (ranks a b) (ranks r s)))
  where
    by : (o q : Ordering) → MatchOrdering o (a < b) (a ≡ b) (b < a) → MatchOrdering q (r < s) (r ≡ s) (s < r)
        → MatchOrdering (ordering_then o q) (a * p + r < b * p + s) (a * p + r ≡ b * p + s) (b * p + s < a * p + r)
    by Less q h k = let up : (a + 1) * p ≤ b * p = mul-le-mul_right p (omega (arith, h)) in omega (arith, up)
    by Equal Less h k = omega (arith, ap (λ (x : ℕ). x * p) h, k)
    by Equal Equal h k = omega (arith, ap (λ (x : ℕ). x * p) h, k)
    by Equal Greater h k = omega (arith, ap (λ (x : ℕ). x * p) h, k)
    by Greater q h k = let up : (b + 1) * p ≤ a * p = mul-le-mul_right p (omega (arith, h)) in omega (arith, up)

positive : (k : ℕ) → 0 < 256 ^ k
positive zero = omega arith
positive (suc k) = rw (pow-suc 256 k) (omega (arith, positive k))

byte_is : (k n : ℕ) → byte_at k n ≡ n / 256 ^ k % 256
byte_is zero n = ap (λ (x : ℕ). x % 256) (sym (div-one n))
byte_is (suc k) n = refl

lowest : (k n : ℕ) → n % 256 ^ suc k ≡ byte_at k n * 256 ^ k + n % 256 ^ k
lowest k n = ap (λ (x : ℕ). n % x) (pow-succ' 256 k) ∙ mod-mul n (omega arith) (positive k) ∙ ap (λ (b : ℕ). b * 256 ^ k + n % 256 ^ k) (sym (byte_is k n))

module _ (m n : ℕ) where
  -- the lowest k bytes
  pub SortsAs-bytes : (k : ℕ) → SortsAs nat_cmp (bytes_high_first k m) (bytes_high_first k n) (nat_cmp (m % 256 ^ k) (n % 256 ^ k))
  SortsAs-bytes zero = SortsAs-is nat_cmp [] [] Equal _ (λ i. nat_cmp (sym (mod-one m) i) (sym (mod-one n) i)) (SortsAs-none nat_cmp)
  SortsAs-bytes (suc k) =
      SortsAs-is nat_cmp _ _ _ _
      (sym (two_digits (256 ^ k) (byte_at k m) (m % 256 ^ k) (byte_at k n) (n % 256 ^ k) (mod-lt m (positive k)) (mod-lt n (positive k)))
      ∙ (λ i. nat_cmp (sym (lowest k m) i) (sym (lowest k n) i)))
      (SortsAs-append nat_cmp (byte_at k m ∷ []) (byte_at k n ∷ []) _ _ _ _ (SortsAs-cell nat_cmp (byte_at k m) (byte_at k n)) (λ _. SortsAs-bytes k))
