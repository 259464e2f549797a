-- What the types of the crate stand for.
use Rattle.bson.specs.Tree.{scalar, null}
use Rattle.bson.specs.View.{tree}
use Rattle.value_order.specs.Order.{Leaf, Key, empty_array, value}
use Rattle.value_order.specs.declared.classes.Leaf.{Leaf as Parts}
use Rattle.value_order.specs.declared.texts.KeyPart.{KeyPart}
use Rattle.value_order.specs.declared.texts.KeyPart.TheVariants as keys

abbrev pub leaf_of : Parts → Leaf
leaf_of a =
    record { signed = a.signed; unsigned = a.unsigned; subtype = a.subtype; bytes = a.bytes.now }

abbrev pub key_of : KeyPart → Key
key_of keys.Nothing = value (scalar null)
key_of keys.EmptyArray = empty_array
key_of (keys.Value v) = value (tree v.now)
