-- The values of BSON 1.1 (bsonspec.org) that this crate takes, apart from where they lie in memory:
-- a scalar, a document of names with their values in order, or an array of values in order.
-- A text, a binary and an object id are lists of bytes.
use Rattle.std.specs.Prelude.{ℕ, ℤ, Bool, suc, ◌+◌, List}

-- a value that holds no other
pub data Scalar : Type 0 where
  text : List ℕ → Scalar
  -- the subtype, and the bytes
  binary : ℕ → List ℕ → Scalar
  object_id : List ℕ → Scalar
  boolean : Bool → Scalar
  -- milliseconds since 1970
  date : ℤ → Scalar
  null : Scalar
  int32 : ℤ → Scalar
  timestamp : ℕ → Scalar
  int64 : ℤ → Scalar
  min_key : Scalar
  max_key : Scalar

mutual
  pub data Tree : Type 0 where
    scalar : Scalar → Tree
    document : Pairs → Tree
    array : Items → Tree

  -- names with their values, in order
  pub data Pairs : Type 0 where
    no_pairs : Pairs
    pair : List ℕ → Tree → Pairs → Pairs

  pub data Items : Type 0 where
    no_items : Items
    item : Tree → Items → Items

-- how many values there are, this one and each that it holds at any depth
abbrev mutual
  pub count : Tree → ℕ
  count (scalar s) = 1
  count (document ps) = suc (count_pairs ps)
  count (array ts) = suc (count_items ts)

  pub count_pairs : Pairs → ℕ
  count_pairs no_pairs = 0
  count_pairs (pair name t ps) = count t + count_pairs ps

  pub count_items : Items → ℕ
  count_items no_items = 0
  count_items (item t ts) = count t + count_items ts

abbrev pub append : Pairs → Pairs → Pairs
append no_pairs qs = qs
append (pair name t ps) qs = pair name t (append ps qs)

abbrev pub append_items : Items → Items → Items
append_items no_items us = us
append_items (item t ts) us = item t (append_items ts us)
