-- The class of a value is that of its kind.
use Rattle.std.proofs.Common.{◌≡◌, refl}
use Rattle.bson.specs.Tree.{Scalar, text, binary, object_id, boolean, date, null, int32, timestamp, int64, min_key, max_key, Tree, scalar, document, array}
use Rattle.bson.specs.Kinds.{scalar_kind, kind}
use Rattle.value_order.specs.Classes.{kind_class}
use Rattle.value_order.specs.Order.{scalar_class, class}

pub scalar_class-kind : (s : Scalar) → kind_class (scalar_kind s) ≡ scalar_class s
scalar_class-kind (text s) = refl
scalar_class-kind (binary subtype bytes) = refl
scalar_class-kind (object_id bytes) = refl
scalar_class-kind (boolean b) = refl
scalar_class-kind (date z) = refl
scalar_class-kind null = refl
scalar_class-kind (int32 z) = refl
scalar_class-kind (timestamp n) = refl
scalar_class-kind (int64 z) = refl
scalar_class-kind min_key = refl
scalar_class-kind max_key = refl

pub class-kind : (t : Tree) → kind_class (kind t) ≡ class t
class-kind (scalar s) = scalar_class-kind s
class-kind (document ps) = refl
class-kind (array ts) = refl
