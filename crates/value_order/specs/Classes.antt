-- The class of a value by its kind.
use Rattle.std.specs.Prelude.{ℕ}
use Rattle.bson.specs.declared.kind.Kind.{Kind}
use Rattle.bson.specs.declared.kind.Kind.TheVariants as kinds

abbrev pub kind_class : Kind → ℕ
kind_class kinds.MinKey = 0x10
kind_class kinds.Null = 0x20
kind_class kinds.Int32 = 0x30
kind_class kinds.Int64 = 0x30
kind_class kinds.String = 0x40
kind_class kinds.Document = 0x50
kind_class kinds.Array = 0x60
kind_class kinds.Binary = 0x70
kind_class kinds.ObjectId = 0x80
kind_class kinds.Bool = 0x90
kind_class kinds.Date = 0xa0
kind_class kinds.Timestamp = 0xb0
kind_class kinds.MaxKey = 0xf0
