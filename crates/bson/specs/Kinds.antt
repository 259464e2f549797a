-- The kinds of values, and the byte that each has in BSON 1.1 (bsonspec.org).
use Rattle.std.specs.Prelude.{ℕ}
use Rattle.bson.specs.Tree.{Scalar, text, binary, object_id, boolean, date, null, int32, timestamp}
use Rattle.bson.specs.Tree.{int64, min_key, max_key, Tree, scalar, document, array}
use Rattle.bson.specs.declared.kind.Kind.{Kind}
use Rattle.bson.specs.declared.kind.Kind.TheVariants as kinds

abbrev pub kind_byte : Kind → ℕ
kind_byte kinds.String = 0x02
kind_byte kinds.Document = 0x03
kind_byte kinds.Array = 0x04
kind_byte kinds.Binary = 0x05
kind_byte kinds.ObjectId = 0x07
kind_byte kinds.Bool = 0x08
kind_byte kinds.Date = 0x09
kind_byte kinds.Null = 0x0a
kind_byte kinds.Int32 = 0x10
kind_byte kinds.Timestamp = 0x11
kind_byte kinds.Int64 = 0x12
kind_byte kinds.MinKey = 0xff
kind_byte kinds.MaxKey = 0x7f

abbrev pub scalar_kind : Scalar → Kind
scalar_kind (text s) = kinds.String
scalar_kind (binary subtype bytes) = kinds.Binary
scalar_kind (object_id bytes) = kinds.ObjectId
scalar_kind (boolean b) = kinds.Bool
scalar_kind (date z) = kinds.Date
scalar_kind null = kinds.Null
scalar_kind (int32 z) = kinds.Int32
scalar_kind (timestamp n) = kinds.Timestamp
scalar_kind (int64 z) = kinds.Int64
scalar_kind min_key = kinds.MinKey
scalar_kind max_key = kinds.MaxKey

abbrev pub kind : Tree → Kind
kind (scalar s) = scalar_kind s
kind (document ps) = kinds.Document
kind (array ts) = kinds.Array
