-- The one spelling of each document, as BSON 1.1 (bsonspec.org) writes it: numbers with the lowest
-- byte first; a document as its length in four bytes, its elements and a zero; an element as its
-- type byte, its name ended by a zero, and its value; an array as a document whose names are `0`,
-- `1`, `2` and so on.
use Rattle.std.specs.Prelude.{if◌then◌else◌, ◌≡◌, ℕ, ◌+◌, ◌^◌, ◌<◌, ◌≤◌, List, [], ◌∷◌, ◌++◌}
use Rattle.std.specs.Prelude.{length, take}
use Rattle.std.specs.Int.{w32, w64, to_le_bytes, cast_unsigned}
use Rattle.std.specs.Fmt.{decimal}
use Rattle.bson.specs.Tree.{Scalar, text, binary, object_id, boolean, date, null, int32, timestamp}
use Rattle.bson.specs.Tree.{int64, min_key, max_key, Tree, scalar, document, array, Pairs, no_pairs}
use Rattle.bson.specs.Tree.{pair, Items, no_items, item}
use Rattle.bson.specs.Kinds.{kind_byte, kind}
use Rattle.bson.specs.Lawful.{IsTree, IsDocument, levels}
use Rattle.bson.specs.Limits.{message_limit}

abbrev pub type_byte : Tree → ℕ
type_byte t = kind_byte (kind t)

-- a length, which counts itself and the zero, the content, and a zero
abbrev pub frame_of : List ℕ → List ℕ
frame_of content = to_le_bytes w32 (length content + 5) ++ (content ++ 0 ∷ [])

-- a type, a name that a zero ends, and the bytes of the value
abbrev pub element : ℕ → List ℕ → List ℕ → List ℕ
element type name value = type ∷ (name ++ 0 ∷ value)

-- the count of a text includes the zero that ends it, that of a binary neither itself nor the
-- subtype
abbrev pub scalar_bytes : Scalar → List ℕ
scalar_bytes (text s) = to_le_bytes w32 (length s + 1) ++ (s ++ 0 ∷ [])
scalar_bytes (binary subtype bytes) = to_le_bytes w32 (length bytes) ++ subtype ∷ bytes
scalar_bytes (object_id bytes) = bytes
scalar_bytes (boolean b) = (if b then 1 else 0) ∷ []
scalar_bytes (date z) = to_le_bytes w64 (cast_unsigned w64 z)
scalar_bytes null = []
scalar_bytes (int32 z) = to_le_bytes w32 (cast_unsigned w32 z)
scalar_bytes (timestamp n) = to_le_bytes w64 n
scalar_bytes (int64 z) = to_le_bytes w64 (cast_unsigned w64 z)
scalar_bytes min_key = []
scalar_bytes max_key = []

unfoldable mutual
  pub tree_bytes : Tree → List ℕ
  tree_bytes (scalar s) = scalar_bytes s
  tree_bytes (document ps) = frame_of (pairs_bytes ps)
  tree_bytes (array ts) = frame_of (items_bytes 0 ts)

  pub pairs_bytes : Pairs → List ℕ
  pairs_bytes no_pairs = []
  pairs_bytes (pair name t ps) = element (type_byte t) name (tree_bytes t) ++ pairs_bytes ps

  -- the names of an array's items are `0`, `1`, `2` and so on
  pub items_bytes : ℕ → Items → List ℕ
  items_bytes i no_items = []
  items_bytes i (item t ts) =
      element (type_byte t) (decimal i) (tree_bytes t) ++ items_bytes (i + 1) ts

-- these bytes, all of them, spell this document
pub record Spells (bytes : List ℕ) (ps : Pairs) : Type 0 where
  pub lawful : IsDocument ps
  pub spelled : bytes ≡ frame_of (pairs_bytes ps)
  pub size : length bytes ≤ message_limit

-- no front of these bytes spells a document
abbrev pub HasNoDocument : List ℕ → Type 0
HasNoDocument bytes = (n : ℕ) (ps : Pairs) → Spells (take n bytes) ps → ⊥

-- a value that a document may hold, and whose length four bytes can say
pub record IsSpellable (t : Tree) : Type 0 where
  pub lawful : IsTree t
  pub depth : levels t ≤ 99
  pub short : length (tree_bytes t) < 2 ^ 31
