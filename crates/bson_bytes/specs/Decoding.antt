-- Reading a document of BSON 1.1 (bsonspec.org) from left to right, with the first fault that is
-- met. Where several faults could be named, what stands further left decides: of an element first
-- its type byte, then its name, then its value; of a value first its count, and whether that fits
-- what is left of the document's content, then what the count is of. A document or array at level
-- 101 is too deep whatever stands there.
use Rattle.std.specs.Prelude.{ℕ, zero, suc, ◌+◌, ◌-◌, ◌^◌, Bool, true, false, not, ◌||◌, ◌==◌}
use Rattle.std.specs.Prelude.{nat_lt, nat_le, if◌then◌else◌, List, [], ◌∷◌, ◌++◌, length, take}
use Rattle.std.specs.Prelude.{drop, slice_index, Result, Ok, Err}
use Rattle.std.specs.Int.{w32, w64, from_le_bytes, cast_signed}
use Rattle.std.specs.Str.{is_utf8, bytes_eq}
use Rattle.std.specs.List.{list_any, position_or_len}
use Rattle.std.specs.Fmt.{decimal}
use Rattle.bson.specs.Tree.{Scalar, text, binary, object_id, boolean, date, null, int32, timestamp}
use Rattle.bson.specs.Tree.{int64, min_key, max_key, Tree, scalar, document, array, Pairs, no_pairs}
use Rattle.bson.specs.Tree.{pair, Items, no_items, item}
use Rattle.bson.specs.Limits.{message_limit}
use Rattle.bson.specs.Lookup.{stands_in}
use Rattle.outcome.specs.Outcome.{◌>>=◌, unless}
use Rattle.bson_bytes.specs.declared.fault.BsonFault.{BsonFault}
use Rattle.bson_bytes.specs.declared.fault.BsonFault.TheVariants as faults
use Rattle.bson.specs.declared.kind.Kind.{Kind}
use Rattle.bson.specs.declared.kind.Kind.TheVariants as kinds

-- what is read at the front, and the bytes after it
abbrev pub Read : Type 0 → Type 0
Read X = Result (X × List ℕ) BsonFault

-- the four bytes of an int32 that is below the least, which may be because it is negative
abbrev pub is_below : ℕ → ℕ → Bool
is_below least n = nat_lt n least || nat_le (2 ^ 31) n

-- this many bytes
unfoldable pub fixed_at : ℕ → List ℕ → Read (List ℕ)
fixed_at len bytes =
    unless (nat_lt (length bytes) len) faults.Length (Ok (take len bytes, drop len bytes))

-- a count of at least this many
unfoldable pub count_at : ℕ → List ℕ → Read ℕ
count_at least bytes = do
  four ← fixed_at 4 bytes
  unless (is_below least (from_le_bytes w32 four.0)) faults.Length
      (Ok (from_le_bytes w32 four.0, four.1))

-- this many bytes, and a zero behind them
unfoldable pub ended_at : BsonFault → ℕ → List ℕ → Read (List ℕ)
ended_at fault len bytes =
    unless (nat_le (length bytes) len) faults.Length
    (unless (not (slice_index bytes len == 0)) fault
    (Ok (take len bytes, drop (len + 1) bytes)))

-- the count of a string includes the zero
unfoldable pub text_at : List ℕ → Read (List ℕ)
text_at bytes = do
  n ← count_at 1 bytes
  s ← ended_at faults.Text (n.0 - 1) n.1
  unless (not (is_utf8 s.0)) faults.Text (Ok s)

-- a document's content: its length includes the length itself and the zero
unfoldable pub content_at : List ℕ → Read (List ℕ)
content_at bytes = do
  n ← count_at 5 bytes
  ended_at faults.Length (n.0 - 5) n.1

unfoldable pub string_at : List ℕ → Read Scalar
string_at bytes = do
  s ← text_at bytes
  Ok (text s.0, s.1)

-- a subtype, and what is of it
abbrev pub binary_of : List ℕ → List ℕ → Read Scalar
binary_of [] rest = Err faults.Length
binary_of (subtype ∷ bytes) rest =
    unless (subtype == 2) faults.Subtype (Ok (binary subtype bytes, rest))

unfoldable pub binary_at : List ℕ → Read Scalar
binary_at bytes = do
  n ← count_at 0 bytes
  body ← fixed_at (n.0 + 1) n.1
  binary_of body.0 body.1

unfoldable pub object_id_at : List ℕ → Read Scalar
object_id_at bytes = do
  twelve ← fixed_at 12 bytes
  Ok (object_id twelve.0, twelve.1)

unfoldable pub boolean_at : List ℕ → Read Scalar
boolean_at [] = Err faults.Length
boolean_at (zero ∷ rest) = Ok (boolean false, rest)
boolean_at (suc zero ∷ rest) = Ok (boolean true, rest)
boolean_at (suc (suc b) ∷ rest) = Err faults.Bool

unfoldable pub date_at : List ℕ → Read Scalar
date_at bytes = do
  eight ← fixed_at 8 bytes
  Ok (date (cast_signed w64 (from_le_bytes w64 eight.0)), eight.1)

unfoldable pub int32_at : List ℕ → Read Scalar
int32_at bytes = do
  four ← fixed_at 4 bytes
  Ok (int32 (cast_signed w32 (from_le_bytes w32 four.0)), four.1)

unfoldable pub timestamp_at : List ℕ → Read Scalar
timestamp_at bytes = do
  eight ← fixed_at 8 bytes
  Ok (timestamp (from_le_bytes w64 eight.0), eight.1)

unfoldable pub int64_at : List ℕ → Read Scalar
int64_at bytes = do
  eight ← fixed_at 8 bytes
  Ok (int64 (cast_signed w64 (from_le_bytes w64 eight.0)), eight.1)

-- A scalar of a kind. No scalar is of the kind of documents or arrays.
unfoldable pub scalar_at : Kind → List ℕ → Read Scalar
scalar_at kinds.String bytes = string_at bytes
scalar_at kinds.Document bytes = Err faults.TypeByte
scalar_at kinds.Array bytes = Err faults.TypeByte
scalar_at kinds.Binary bytes = binary_at bytes
scalar_at kinds.ObjectId bytes = object_id_at bytes
scalar_at kinds.Bool bytes = boolean_at bytes
scalar_at kinds.Date bytes = date_at bytes
scalar_at kinds.Null bytes = Ok (null, bytes)
scalar_at kinds.Int32 bytes = int32_at bytes
scalar_at kinds.Timestamp bytes = timestamp_at bytes
scalar_at kinds.Int64 bytes = int64_at bytes
scalar_at kinds.MinKey bytes = Ok (min_key, bytes)
scalar_at kinds.MaxKey bytes = Ok (max_key, bytes)

-- a scalar as a value
abbrev pub leaf : Read Scalar → Read Tree
leaf read = read >>= λ s. Ok (scalar s.0, s.1)

unfoldable pub kind_of : ℕ → Result Kind BsonFault
kind_of b =
    if b == 0x02 then Ok kinds.String else
    if b == 0x03 then Ok kinds.Document else
    if b == 0x04 then Ok kinds.Array else
    if b == 0x05 then Ok kinds.Binary else
    if b == 0x07 then Ok kinds.ObjectId else
    if b == 0x08 then Ok kinds.Bool else
    if b == 0x09 then Ok kinds.Date else
    if b == 0x0a then Ok kinds.Null else
    if b == 0x10 then Ok kinds.Int32 else
    if b == 0x11 then Ok kinds.Timestamp else
    if b == 0x12 then Ok kinds.Int64 else
    if b == 0xff then Ok kinds.MinKey else
    if b == 0x7f then Ok kinds.MaxKey else
    Err faults.TypeByte

-- where the first zero is
abbrev pub zero_at : List ℕ → ℕ
zero_at bytes = position_or_len (λ b. b == 0) bytes

-- a name, which the first zero ends
unfoldable pub name_at : List ℕ → Read (List ℕ)
name_at bytes =
    unless (nat_le (length bytes) (zero_at bytes)) faults.Name
    (unless (not (is_utf8 (take (zero_at bytes) bytes))) faults.Name
    (Ok (take (zero_at bytes) bytes, drop (zero_at bytes + 1) bytes)))

-- An element after its type byte, where some names are wrong.
unfoldable pub element_by : (Kind → List ℕ → Read Tree) → (List ℕ → Bool) → BsonFault → ℕ → List ℕ
    → Read (List ℕ × Tree)
element_by read wrong fault type bytes = do
  kind ← kind_of type
  name ← name_at bytes
  value ← unless (wrong name.0) fault (read kind name.1)
  Ok ((name.0, value.0), value.1)

-- the name is not the index
abbrev pub is_no_index : ℕ → List ℕ → Bool
is_no_index i name = not (bytes_eq name (decimal i))

-- An item of an array, after its type byte.
unfoldable pub item_by : (Kind → List ℕ → Read Tree) → ℕ → ℕ → List ℕ → Read Tree
item_by read i type bytes = do
  first ← element_by read (is_no_index i) faults.ArrayName type bytes
  Ok (first.0.1, first.1)

-- The elements of a document. Each takes a byte at least, so there are at most as many as there are
-- bytes.
unfoldable pub pairs_by : (Kind → List ℕ → Read Tree) → ℕ → List (List ℕ) → List ℕ
    → Result Pairs BsonFault
pairs_by read most earlier [] = Ok no_pairs
pairs_by read zero earlier (type ∷ bytes) = Err faults.TypeByte
pairs_by read (suc most) earlier (type ∷ bytes) = do
  first ← element_by read (stands_in earlier) faults.Repeated type bytes
  others ← pairs_by read most (earlier ++ first.0.0 ∷ []) first.1
  Ok (pair first.0.0 first.0.1 others)

-- The elements of an array, from the one with this index.
unfoldable pub items_by : (Kind → List ℕ → Read Tree) → ℕ → ℕ → List ℕ → Result Items BsonFault
items_by read most i [] = Ok no_items
items_by read zero i (type ∷ bytes) = Err faults.TypeByte
items_by read (suc most) i (type ∷ bytes) = do
  first ← item_by read i type bytes
  others ← items_by read most (i + 1) first.1
  Ok (item first.0 others)

abbrev pub pairs_in : (Kind → List ℕ → Read Tree) → List ℕ → Result Pairs BsonFault
pairs_in read content = pairs_by read (length content) [] content

abbrev pub items_in : (Kind → List ℕ → Read Tree) → List ℕ → Result Items BsonFault
items_in read content = items_by read (length content) 0 content

-- A value where this many more levels are allowed.
unfoldable pub value_at : ℕ → Kind → List ℕ → Read Tree
value_at zero kinds.Document bytes = Err faults.Deep
value_at (suc more) kinds.Document bytes = do
  content ← content_at bytes
  ps ← pairs_in (value_at more) content.0
  Ok (document ps, content.1)
value_at zero kinds.Array bytes = Err faults.Deep
value_at (suc more) kinds.Array bytes = do
  content ← content_at bytes
  ts ← items_in (value_at more) content.0
  Ok (array ts, content.1)
value_at more k bytes = leaf (scalar_at k bytes)

-- The length of the document at the front of the input.
unfoldable pub length_at : List ℕ → Result ℕ BsonFault
length_at bytes =
    unless (nat_lt (length bytes) 4) faults.Truncated
    (unless (is_below 5 (from_le_bytes w32 (take 4 bytes))) faults.Length
    (unless (nat_lt message_limit (from_le_bytes w32 (take 4 bytes))) faults.TooLarge
    (unless (nat_lt (length bytes) (from_le_bytes w32 (take 4 bytes))) faults.Truncated
    (Ok (from_le_bytes w32 (take 4 bytes))))))

-- The document at the front of the input, and its length.
unfoldable pub document_at : List ℕ → Result (Pairs × ℕ) BsonFault
document_at bytes = do
  len ← length_at bytes
  content ← ended_at faults.Length (len - 5) (drop 4 bytes)
  ps ← pairs_in (value_at 99) content.0
  Ok (ps, len)
