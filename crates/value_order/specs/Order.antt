-- The total order of values (MongoDB manual, "Comparison/Sort Order", less the types that are left
-- out): by class, then by content.
use Rattle.std.specs.Prelude.{ℕ, ℤ, pos, List, [], length, if◌then◌else◌}
use Rattle.std.specs.declared.cmp.Ordering.{Ordering}
use Rattle.std.specs.declared.cmp.Ordering.TheVariants.{Less, Equal, Greater}
use Rattle.std.specs.Ordering.{ordering_then, nat_cmp, int_cmp}
use Rattle.std.specs.Cmp.Lexicographic.{slice_cmp}
use Rattle.bson.specs.Tree.{Scalar, text, binary, object_id, boolean, date, null, int32, timestamp}
use Rattle.bson.specs.Tree.{int64, min_key, max_key, Tree, scalar, document, array, Pairs, no_pairs}
use Rattle.bson.specs.Tree.{pair, Items, no_items, item}

-- The class of a value. Classes rise as these bytes do, which are also the first of the values' key
-- texts.
abbrev pub scalar_class : Scalar → ℕ
scalar_class min_key = 0x10
scalar_class null = 0x20
scalar_class (int32 z) = 0x30
scalar_class (int64 z) = 0x30
scalar_class (text s) = 0x40
scalar_class (binary subtype bytes) = 0x70
scalar_class (object_id bytes) = 0x80
scalar_class (boolean b) = 0x90
scalar_class (date z) = 0xa0
scalar_class (timestamp n) = 0xb0
scalar_class max_key = 0xf0

abbrev pub class : Tree → ℕ
class (scalar s) = scalar_class s
class (document ps) = 0x50
class (array ts) = 0x60

-- ---- what values of one class are compared by

abbrev pub bytes_cmp : List ℕ → List ℕ → Ordering
bytes_cmp a b = slice_cmp nat_cmp a b

-- A value that holds no other is compared by these, in this order. A class uses some of them:
-- numbers and dates the signed one, timestamps and truth values (false is 0, true 1) the unsigned
-- one, binary its length, subtype and bytes, strings and ObjectIds their bytes. The others are
-- alike for all values of the class.
pub record Leaf : Type 0 where
  pub signed : ℤ
  pub unsigned : ℕ
  pub subtype : ℕ
  pub bytes : List ℕ

abbrev pub alike : Leaf
alike = record { signed = pos 0; unsigned = 0; subtype = 0; bytes = [] }

abbrev pub scalar_leaf : Scalar → Leaf
scalar_leaf (int32 z) = record alike { signed = z }
scalar_leaf (int64 z) = record alike { signed = z }
scalar_leaf (text s) = record alike { bytes = s }
scalar_leaf (binary kind content) =
    record { signed = pos 0; unsigned = length content; subtype = kind; bytes = content }
scalar_leaf (object_id content) = record alike { bytes = content }
scalar_leaf (boolean b) = record alike { unsigned = if b then 1 else 0 }
scalar_leaf (date z) = record alike { signed = z }
scalar_leaf (timestamp n) = record alike { unsigned = n }
scalar_leaf min_key = alike
scalar_leaf null = alike
scalar_leaf max_key = alike

abbrev pub leaf_cmp : Leaf → Leaf → Ordering
leaf_cmp a b =
    ordering_then (int_cmp a.signed b.signed) (ordering_then (nat_cmp a.unsigned b.unsigned)
    (ordering_then (nat_cmp a.subtype b.subtype) (bytes_cmp a.bytes b.bytes)))

-- what has nothing of its own to compare but what it holds
abbrev pub leaf : Tree → Leaf
leaf (scalar s) = scalar_leaf s
leaf (document ps) = alike
leaf (array ts) = alike

-- Documents pair by pair by the class of the value, the name and the value, arrays item by item.
-- What has ended is below what goes on.
abbrev mutual
  pub content_cmp : Tree → Tree → Ordering
  content_cmp (document ps) (document qs) = pairs_cmp ps qs
  content_cmp (array ts) (array us) = items_cmp ts us
  content_cmp t u = leaf_cmp (leaf t) (leaf u)

  pub pairs_cmp : Pairs → Pairs → Ordering
  pairs_cmp no_pairs no_pairs = Equal
  pairs_cmp no_pairs (pair m u qs) = Less
  pairs_cmp (pair n t ps) no_pairs = Greater
  pairs_cmp (pair n t ps) (pair m u qs) =
      ordering_then (nat_cmp (class t) (class u))
      (ordering_then (bytes_cmp n m) (ordering_then (content_cmp t u) (pairs_cmp ps qs)))

  pub items_cmp : Items → Items → Ordering
  items_cmp no_items no_items = Equal
  items_cmp no_items (item u us) = Less
  items_cmp (item t ts) no_items = Greater
  items_cmp (item t ts) (item u us) =
      ordering_then (nat_cmp (class t) (class u))
      (ordering_then (content_cmp t u) (items_cmp ts us))

-- by class, then by content
abbrev pub compare : Tree → Tree → Ordering
compare t u = ordering_then (nat_cmp (class t) (class u)) (content_cmp t u)

-- ---- keys

-- what an index or a sort has for a document: a value, or that an empty array stands there
pub data Key : Type 0 where
  empty_array : Key
  value : Tree → Key

abbrev pub key_class : Key → ℕ
key_class empty_array = 0x18
key_class (value t) = class t

abbrev pub key_content_cmp : Key → Key → Ordering
key_content_cmp (value t) (value u) = content_cmp t u
key_content_cmp a b = Equal

abbrev pub key_cmp : Key → Key → Ordering
key_cmp a b = ordering_then (nat_cmp (key_class a) (key_class b)) (key_content_cmp a b)
