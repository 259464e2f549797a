-- Key texts: bytes that order as the values do, equal exactly where the order says equal, and none
-- of which begins another. A text is the byte of the value's class and then what values of the
-- class are compared by.
use Rattle.std.specs.Prelude.{ℕ, zero, suc, ℤ, pos, negsuc, ◌+◌, ◌-◌, ◌^◌, List, [], ◌∷◌, ◌++◌}
use Rattle.std.specs.Prelude.{length, map, if◌then◌else◌}
use Rattle.std.specs.Int.{w32, w64, to_be_bytes}
use Rattle.bson.specs.Tree.{Scalar, text, binary, object_id, boolean, date, null, int32, timestamp}
use Rattle.bson.specs.Tree.{int64, min_key, max_key, Tree, scalar, document, array, Pairs, no_pairs}
use Rattle.bson.specs.Tree.{pair, Items, no_items, item}
use Rattle.std.specs.declared.cmp.Ordering.{Ordering}
use Rattle.std.specs.Ordering.{ordering_reverse}
use Rattle.value_order.specs.declared.texts.Direction.{Direction}
use Rattle.value_order.specs.declared.texts.Direction.TheVariants as directions
use Rattle.value_order.specs.Order.{class, Key, empty_array, value, key_cmp}

-- a zero byte of a string is `00 ff`, and `00 00` ends it
abbrev pub escaped_text : List ℕ → List ℕ
escaped_text [] = 0 ∷ 0 ∷ []
escaped_text (zero ∷ bs) = 0 ∷ 255 ∷ escaped_text bs
escaped_text (suc b ∷ bs) = suc b ∷ escaped_text bs

-- an int64 with its top bit turned
abbrev pub sortable_bits : ℤ → ℕ
sortable_bits (pos n) = 2 ^ 63 + n
sortable_bits (negsuc n) = 2 ^ 63 - suc n

abbrev pub scalar_text : Scalar → List ℕ
scalar_text (int32 z) = to_be_bytes w64 (sortable_bits z)
scalar_text (int64 z) = to_be_bytes w64 (sortable_bits z)
scalar_text (text s) = escaped_text s
scalar_text (binary subtype bytes) = to_be_bytes w32 (length bytes) ++ subtype ∷ bytes
scalar_text (object_id bytes) = bytes
scalar_text (boolean b) = (if b then 1 else 0) ∷ []
scalar_text (date z) = to_be_bytes w64 (sortable_bits z)
scalar_text (timestamp n) = to_be_bytes w64 n
scalar_text min_key = []
scalar_text null = []
scalar_text max_key = []

abbrev mutual
  pub content_text : Tree → List ℕ
  content_text (scalar s) = scalar_text s
  content_text (document ps) = pairs_text ps
  content_text (array ts) = items_text ts

  -- for each pair the class of the value, the name, 00, and the value's text; then 00
  pub pairs_text : Pairs → List ℕ
  pairs_text no_pairs = 0 ∷ []
  pairs_text (pair n t ps) = class t ∷ (n ++ 0 ∷ (class t ∷ (content_text t ++ pairs_text ps)))

  -- the text of each item; then 00
  pub items_text : Items → List ℕ
  items_text no_items = 0 ∷ []
  items_text (item t ts) = class t ∷ (content_text t ++ items_text ts)

abbrev pub tree_text : Tree → List ℕ
tree_text t = class t ∷ content_text t

abbrev pub key_text : Key → List ℕ
key_text empty_array = 0x18 ∷ []
key_text (value t) = tree_text t

-- with every byte complemented
abbrev pub complement : List ℕ → List ℕ
complement bs = map (λ b. 255 - b) bs

-- the text of a key in a direction
abbrev pub directed_text : Direction → Key → List ℕ
directed_text directions.Ascending key = key_text key
directed_text directions.Descending key = complement (key_text key)

-- the order of two keys in a direction
abbrev pub directed_cmp : Direction → Key → Key → Ordering
directed_cmp directions.Ascending a b = key_cmp a b
directed_cmp directions.Descending a b = ordering_reverse (key_cmp a b)
