-- Key texts are bytes.
use Rattle.std.proofs.Common.{◌≡◌, ℕ, zero, suc, ◌^◌, ◌/◌, ◌<◌, Bool, true, false, List, [], ◌∷◌, ◌++◌, length, refl, subst, arith}
use Rattle.std.specs.Prelude.{IsUtf8, ◌&&◌, cond, nat_lt}
use Rattle.std.proofs.Math.Nat.{mod-lt}
use Rattle.std.specs.Int.{bytes_high_first, byte_at}
use mathlib.Core.Logic.{⊎_elim}
use borrow.Author.Tests.{ltb-true}
use lib.Utf8.{encode, encodes, next, scalar as is_scalar, scalars, scalar_cases}
use Rattle.bson.specs.Tree.{Scalar, text, binary, object_id, boolean, date, null, int32, timestamp, int64, min_key, max_key, Tree, scalar, document, array}
use Rattle.bson.specs.Tree.{Pairs, no_pairs, pair, Items, no_items, item}
use Rattle.bson.specs.Lawful.{IsBytes, IsScalar, IsTree, IsPairs, IsItems}
use Rattle.value_order.specs.Order.{class}
use Rattle.value_order.specs.KeyText.{escaped_text, sortable_bits, scalar_text, content_text, pairs_text, items_text, tree_text}
use Rattle.value_order.proofs.InversionLaws.{AreBytes}

pub AreBytes-append : (a b : List ℕ) → AreBytes a → AreBytes b → AreBytes (a ++ b)
AreBytes-append [] b g h = h
AreBytes-append (x ∷ a) b g h = (g.0, AreBytes-append a b g.1 h)

-- ---- UTF-8

and_first : (a b : Bool) → (a && b) ≡ true → a ≡ true
and_first true b e = refl
and_first false b e = absurd cc

and_second : (a b : Bool) → (a && b) ≡ true → b ≡ true
and_second true b e = e
and_second false b e = absurd cc

either : (b : Bool) (x y : List ℕ) → (b ≡ true → AreBytes x) → (b ≡ false → AreBytes y) → AreBytes (cond b x y)
either true x y g h = g refl
either false x y g h = h refl

next_byte : (c : ℕ) → next c < 256
next_byte c = omega arith

encode_bytes : (c : ℕ) → c < 1114112 → AreBytes (encode c)
unfolding encode
encode_bytes c fits =
    either (nat_lt c 128) _ _ (λ e. (omega (arith, ltb-true c 128 e), tt)) (λ _.
    either (nat_lt c 2048) _ _ (λ e. (omega (arith, ltb-true c 2048 e), (next_byte c, tt))) (λ _.
    either (nat_lt c 65536) _ _ (λ e. (omega (arith, ltb-true c 65536 e), (next_byte (c / 64), (next_byte c, tt))))
    (λ _. (omega arith, (next_byte (c / 4096), (next_byte (c / 64), (next_byte c, tt)))))))

all_bytes : (cs : List ℕ) → scalars cs ≡ true → AreBytes (encodes cs)
all_bytes [] e = tt
all_bytes (c ∷ cs) e =
    AreBytes-append (encode c) (encodes cs) (encode_bytes c (low c (and_first (is_scalar c) (scalars cs) e)))
    (all_bytes cs (and_second (is_scalar c) (scalars cs) e))
  where
    low : (c : ℕ) → is_scalar c ≡ true → c < 1114112
    low c e = ⊎_elim (λ h. omega (arith, h)) (λ h. h.1) (scalar_cases c e)

pub utf8_bytes : (s : List ℕ) → IsUtf8 s → AreBytes s
utf8_bytes s h = subst AreBytes h.1.1 (all_bytes h.0 h.1.0)

-- ---- numbers

pub high_bytes : (k n : ℕ) → AreBytes (bytes_high_first k n)
high_bytes zero n = tt
high_bytes (suc k) n = (byte k, high_bytes k n)
  where
    byte : (i : ℕ) → byte_at i n < 256
    byte zero = omega arith
    byte (suc i) = mod-lt (n / 256 ^ suc i) (omega arith)

pub listed_bytes : (bytes : List ℕ) → IsBytes bytes → AreBytes bytes
listed_bytes [] h = tt
listed_bytes (b ∷ bytes) h = (h 0, listed_bytes bytes (λ i. h (suc i)))

escaped_bytes : (s : List ℕ) → AreBytes s → AreBytes (escaped_text s)
escaped_bytes [] h = (omega arith, (omega arith, tt))
escaped_bytes (zero ∷ s) h = (omega arith, (omega arith, escaped_bytes s h.1))
escaped_bytes (suc b ∷ s) h = (h.0, escaped_bytes s h.1)

scalar_bytes : (s : Scalar) → IsScalar s → AreBytes (scalar_text s)
scalar_bytes (text s) h = escaped_bytes s (utf8_bytes s h)
scalar_bytes (binary k b) h = AreBytes-append (bytes_high_first 4 (length b)) (k ∷ b) (high_bytes 4 (length b)) (h.1, listed_bytes b h.2)
scalar_bytes (object_id b) h = listed_bytes b h.1
scalar_bytes (boolean false) h = (omega arith, tt)
scalar_bytes (boolean true) h = (omega arith, tt)
scalar_bytes (date z) h = high_bytes 8 (sortable_bits z)
scalar_bytes null h = tt
scalar_bytes (int32 z) h = high_bytes 8 (sortable_bits z)
scalar_bytes (timestamp n) h = high_bytes 8 n
scalar_bytes (int64 z) h = high_bytes 8 (sortable_bits z)
scalar_bytes min_key h = tt
scalar_bytes max_key h = tt

class_byte : (t : Tree) → class t < 256
class_byte (scalar (text s)) = omega arith
class_byte (scalar (binary k b)) = omega arith
class_byte (scalar (object_id b)) = omega arith
class_byte (scalar (boolean b)) = omega arith
class_byte (scalar (date z)) = omega arith
class_byte (scalar null) = omega arith
class_byte (scalar (int32 z)) = omega arith
class_byte (scalar (timestamp n)) = omega arith
class_byte (scalar (int64 z)) = omega arith
class_byte (scalar min_key) = omega arith
class_byte (scalar max_key) = omega arith
class_byte (document ps) = omega arith
class_byte (array ts) = omega arith

mutual
  content_bytes : (t : Tree) → IsTree t → AreBytes (content_text t)
  content_bytes (scalar s) h = scalar_bytes s h
  content_bytes (document ps) h = pairs_are_bytes ps h
  content_bytes (array ts) h = items_are_bytes ts h

  pairs_are_bytes : (ps : Pairs) → IsPairs ps → AreBytes (pairs_text ps)
  pairs_are_bytes no_pairs h = (omega arith, tt)
  pairs_are_bytes (pair n t ps) h = (
    class_byte t,
    AreBytes-append n (0 ∷ class t ∷ content_text t ++ pairs_text ps) (utf8_bytes n h.0.is_text)
        (omega arith, (class_byte t, AreBytes-append (content_text t) (pairs_text ps) (content_bytes t h.1) (pairs_are_bytes ps h.3))),
  )

  items_are_bytes : (ts : Items) → IsItems ts → AreBytes (items_text ts)
  items_are_bytes no_items h = (omega arith, tt)
  items_are_bytes (item t ts) h = (class_byte t, AreBytes-append (content_text t) (items_text ts) (content_bytes t h.0) (items_are_bytes ts h.1))

pub tree_are_bytes : (t : Tree) → IsTree t → AreBytes (tree_text t)
tree_are_bytes t h = (class_byte t, content_bytes t h)
