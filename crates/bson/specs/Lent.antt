-- What a lent value that holds no other is.
use Rattle.std.specs.Prelude.{Option, Some, None}
use Rattle.bson.specs.Tree.{Scalar, text, binary, object_id, boolean, date, null, int32, timestamp}
use Rattle.bson.specs.Tree.{int64, min_key, max_key, Tree, scalar, document, array}
use Rattle.bson.specs.declared.raw_scalar.RawScalar.{RawScalar}
use Rattle.bson.specs.declared.raw_scalar.RawScalar.TheVariants as lent

abbrev pub scalar_of : RawScalar → Scalar
scalar_of (lent.String s) = text s.now
scalar_of (lent.Binary subtype bytes) = binary subtype bytes.now
scalar_of (lent.ObjectId bytes) = object_id bytes.now
scalar_of (lent.Bool b) = boolean b
scalar_of (lent.Date z) = date z
scalar_of lent.Null = null
scalar_of (lent.Int32 z) = int32 z
scalar_of (lent.Timestamp n) = timestamp n
scalar_of (lent.Int64 z) = int64 z
scalar_of lent.MinKey = min_key
scalar_of lent.MaxKey = max_key

-- the scalar that a tree is
abbrev pub scalar_in : Tree → Option Scalar
scalar_in (scalar s) = Some s
scalar_in (document ps) = None
scalar_in (array ts) = None
