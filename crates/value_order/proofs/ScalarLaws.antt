-- Texts of scalars of one class order as the scalars do.
use Rattle.std.proofs.Common.{◌≡◌, ℕ, ◌^◌, ◌<◌, ℤ, pos, negsuc, Bool, true, false, List, [], ◌∷◌, length, sym, ◌∙◌, ap, arith}
use Rattle.std.specs.Prelude.{◌<ℤ◌, FitsSigned}
use Rattle.std.proofs.lemmas.Int.{ints}
use Rattle.std.proofs.Math.Nat.{mod-eq_of_lt}
use Rattle.std.specs.Int.{w32, w64, to_be_bytes, bytes_high_first}
use Rattle.std.specs.declared.cmp.Ordering.{Ordering}
use Rattle.std.specs.declared.cmp.Ordering.TheVariants.{Less, Equal, Greater}
use Rattle.std.specs.Ordering.{ordering_then, nat_cmp, int_cmp, MatchOrdering}
use Rattle.std.specs.Cmp.{nat_cmp_is, int_ranks}
use Rattle.std.proofs.lemmas.Map.Lookups.{exact_unsigned}
use Rattle.bson.specs.Tree.{Scalar, text, binary, object_id, boolean, date, null, int32, timestamp, int64, min_key, max_key}
use Rattle.bson.specs.Lawful.{IsScalar}
use Rattle.value_order.specs.Order.{scalar_class, alike, scalar_leaf, leaf_cmp}
use Rattle.value_order.specs.KeyText.{escaped_text, sortable_bits, scalar_text}
use Rattle.key_order.specs.SortingLaws.{SortsAs, SortsAs-none, SortsAs-cell, SortsAs-is, SortsAs-append, SortsAs-even, then-Equal}
use Rattle.key_order.proofs.NumberLaws.{SortsAs-bytes}
use Rattle.value_order.proofs.EscapingLaws.{escaped_sorts}

-- a binary's length fits its four bytes
abbrev pub IsSized : Scalar → Type 0
IsSized (binary kind bytes) = length bytes < 2 ^ 32
IsSized other = Unit {0}

-- numbers of k bytes
bytes_sort : (k m n : ℕ) → m < 256 ^ k → n < 256 ^ k → SortsAs nat_cmp (bytes_high_first k m) (bytes_high_first k n) (nat_cmp m n)
bytes_sort k m n low other = SortsAs-is nat_cmp _ _ _ _ (λ i. nat_cmp (mod-eq_of_lt low i) (mod-eq_of_lt other i)) (SortsAs-bytes m n k)

raised_fits : (z : ℤ) → FitsSigned w64 z → sortable_bits z < 2 ^ 64
raised_fits (pos n) fits = omega (arith, ints, fits)
raised_fits (negsuc n) fits = omega (arith, ints, fits)

raised_less : (x y : ℤ) → FitsSigned w64 x → FitsSigned w64 y → x <ℤ y → sortable_bits x < sortable_bits y
raised_less (pos m) (pos n) f g h = omega (arith, ints, f, g, h)
raised_less (pos m) (negsuc n) f g h = omega (arith, ints, f, g, h)
raised_less (negsuc m) (pos n) f g h = omega (arith, ints, f, g, h)
raised_less (negsuc m) (negsuc n) f g h = omega (arith, ints, f, g, h)

raised_cmp : (x y : ℤ) → FitsSigned w64 x → FitsSigned w64 y → nat_cmp (sortable_bits x) (sortable_bits y) ≡ int_cmp x y
raised_cmp x y f g = sym (nat_cmp_is (sortable_bits x) (sortable_bits y) (int_cmp x y) (by (int_cmp x y) (int_ranks x y)))
  where
    by : (o : Ordering) → MatchOrdering o (x <ℤ y) (x ≡ y) (y <ℤ x)
        → MatchOrdering o (sortable_bits x < sortable_bits y) (sortable_bits x ≡ sortable_bits y) (sortable_bits y < sortable_bits x)
    by Less h = raised_less x y f g h
    by Equal h = ap sortable_bits h
    by Greater h = raised_less y x g f h

-- signed numbers of 64 bits
signed_sorts : (x y : ℤ) → FitsSigned w64 x → FitsSigned w64 y
    → SortsAs nat_cmp (to_be_bytes w64 (sortable_bits x)) (to_be_bytes w64 (sortable_bits y)) (ordering_then (int_cmp x y) Equal)
signed_sorts x y f g =
    SortsAs-is nat_cmp _ _ _ _ (raised_cmp x y f g ∙ sym (then-Equal (int_cmp x y)))
    (bytes_sort 8 (sortable_bits x) (sortable_bits y) (raised_fits x f) (raised_fits y g))

wider : (z : ℤ) → FitsSigned w32 z → FitsSigned w64 z
wider z fits = omega (arith, ints, fits)

text_sorts : (s : List ℕ) (r : Scalar) → 0x40 ≡ scalar_class r
    → SortsAs nat_cmp (escaped_text s) (scalar_text r) (leaf_cmp (scalar_leaf (text s)) (scalar_leaf r))
text_sorts s (text r) e = escaped_sorts s r
text_sorts s other e = absurd (omega (arith, e))

number_sorts : (x : ℤ) (r : Scalar) → FitsSigned w64 x → IsScalar r → 0x30 ≡ scalar_class r
    → SortsAs nat_cmp (to_be_bytes w64 (sortable_bits x)) (scalar_text r) (leaf_cmp (scalar_leaf (int64 x)) (scalar_leaf r))
number_sorts x (int32 y) f g e = signed_sorts x y f (wider y g)
number_sorts x (int64 y) f g e = signed_sorts x y f g
number_sorts x other f g e = absurd (omega (arith, e))

boolean_sorts : (b : Bool) (r : Scalar) → 0x90 ≡ scalar_class r
    → SortsAs nat_cmp (scalar_text (boolean b)) (scalar_text r) (leaf_cmp (scalar_leaf (boolean b)) (scalar_leaf r))
boolean_sorts false (boolean false) e = SortsAs-cell nat_cmp 0 0
boolean_sorts false (boolean true) e = SortsAs-cell nat_cmp 0 1
boolean_sorts true (boolean false) e = SortsAs-cell nat_cmp 1 0
boolean_sorts true (boolean true) e = SortsAs-cell nat_cmp 1 1
boolean_sorts b other e = absurd (omega (arith, e))

date_sorts : (x : ℤ) (r : Scalar) → FitsSigned w64 x → IsScalar r → 0xa0 ≡ scalar_class r
    → SortsAs nat_cmp (to_be_bytes w64 (sortable_bits x)) (scalar_text r) (leaf_cmp (scalar_leaf (date x)) (scalar_leaf r))
date_sorts x (date y) f g e = signed_sorts x y f g
date_sorts x other f g e = absurd (omega (arith, e))

timestamp_sorts : (m : ℕ) (r : Scalar) → m < 2 ^ 64 → IsScalar r → 0xb0 ≡ scalar_class r
    → SortsAs nat_cmp (to_be_bytes w64 m) (scalar_text r) (leaf_cmp (scalar_leaf (timestamp m)) (scalar_leaf r))
timestamp_sorts m (timestamp n) f g e = SortsAs-is nat_cmp _ _ _ _ (sym (then-Equal (nat_cmp m n))) (bytes_sort 8 m n f g)
timestamp_sorts m other f g e = absurd (omega (arith, e))

object_id_sorts : (a : List ℕ) (r : Scalar) → length a ≡ 12 → IsScalar r → 0x80 ≡ scalar_class r
    → SortsAs nat_cmp a (scalar_text r) (leaf_cmp (scalar_leaf (object_id a)) (scalar_leaf r))
object_id_sorts a (object_id b) f g e = SortsAs-even nat_cmp a b (omega (arith, f, g.0))
object_id_sorts a other f g e = absurd (omega (arith, e))

-- binary by length, subtype and bytes
binary_sorts : (k : ℕ) (a : List ℕ) (r : Scalar) → IsSized (binary k a) → IsSized r → 0x70 ≡ scalar_class r
    → SortsAs nat_cmp (scalar_text (binary k a)) (scalar_text r) (leaf_cmp (scalar_leaf (binary k a)) (scalar_leaf r))
binary_sorts k a (binary l b) f g e =
    SortsAs-append nat_cmp (to_be_bytes w32 (length a)) (to_be_bytes w32 (length b)) (k ∷ a) (l ∷ b) _ _ (bytes_sort 4 (length a) (length b) f g) (λ same.
    SortsAs-append nat_cmp (k ∷ []) (l ∷ []) a b _ _ (SortsAs-cell nat_cmp k l) (λ _. SortsAs-even nat_cmp a b (exact_unsigned (length a) (length b) same)))
binary_sorts k a other f g e = absurd (omega (arith, e))

-- classes of one value
min_key_sorts : (r : Scalar) → 0x10 ≡ scalar_class r → SortsAs nat_cmp [] (scalar_text r) (leaf_cmp alike (scalar_leaf r))
min_key_sorts min_key e = SortsAs-none nat_cmp
min_key_sorts other e = absurd (omega (arith, e))

null_sorts : (r : Scalar) → 0x20 ≡ scalar_class r → SortsAs nat_cmp [] (scalar_text r) (leaf_cmp alike (scalar_leaf r))
null_sorts null e = SortsAs-none nat_cmp
null_sorts other e = absurd (omega (arith, e))

max_key_sorts : (r : Scalar) → 0xf0 ≡ scalar_class r → SortsAs nat_cmp [] (scalar_text r) (leaf_cmp alike (scalar_leaf r))
max_key_sorts max_key e = SortsAs-none nat_cmp
max_key_sorts other e = absurd (omega (arith, e))

pub scalar_sorts : (s r : Scalar) → IsScalar s × IsSized s → IsScalar r × IsSized r → scalar_class s ≡ scalar_class r
    → SortsAs nat_cmp (scalar_text s) (scalar_text r) (leaf_cmp (scalar_leaf s) (scalar_leaf r))
scalar_sorts (text s) r f g e = text_sorts s r e
scalar_sorts (int32 x) r f g e = number_sorts x r (wider x f.0) g.0 e
scalar_sorts (int64 x) r f g e = number_sorts x r f.0 g.0 e
scalar_sorts (binary k a) r f g e = binary_sorts k a r f.1 g.1 e
scalar_sorts (object_id a) r f g e = object_id_sorts a r f.0.0 g.0 e
scalar_sorts (boolean b) r f g e = boolean_sorts b r e
scalar_sorts (date x) r f g e = date_sorts x r f.0 g.0 e
scalar_sorts (timestamp n) r f g e = timestamp_sorts n r f.0 g.0 e
scalar_sorts min_key r f g e = min_key_sorts r e
scalar_sorts null r f g e = null_sorts r e
scalar_sorts max_key r f g e = max_key_sorts r e
