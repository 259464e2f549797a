-- What the types of the crate stand for. A `Document` is its `Pairs`, an `Array` its `Items`, a
-- `Text` and `Bytes` are lists of bytes and a `Subtype` is its byte; `tree` says what a `Value` is.
use Rattle.std.specs.Prelude.{ℕ, List, map, [], ◌∷◌}
use Rattle.bson.specs.Tree.{text, binary, object_id, boolean, date, null, int32, timestamp, int64}
use Rattle.bson.specs.Tree.{min_key, max_key, Tree, scalar, document, array, Pairs, no_pairs, pair}
use Rattle.bson.specs.Tree.{Items, no_items, item}
use Rattle.bson.specs.declared.value.Value.{Value}
use Rattle.bson.specs.declared.value.Value.TheVariants as values
use Rattle.bson.specs.declared.value.Pair.{Pair}

abbrev pub tree : Value → Tree
tree (values.String s) = scalar (text s)
tree (values.Document ps) = document ps
tree (values.Array ts) = array ts
tree (values.Binary b) = scalar (binary b.subtype b.bytes)
tree (values.ObjectId bytes) = scalar (object_id bytes)
tree (values.Bool b) = scalar (boolean b)
tree (values.Date z) = scalar (date z)
tree values.Null = scalar null
tree (values.Int32 z) = scalar (int32 z)
tree (values.Timestamp n) = scalar (timestamp n)
tree (values.Int64 z) = scalar (int64 z)
tree values.MinKey = scalar min_key
tree values.MaxKey = scalar max_key

abbrev pub pairs_of : List Pair → Pairs
pairs_of [] = no_pairs
pairs_of (p ∷ ps) = pair p.name (tree p.value) (pairs_of ps)

abbrev pub items_of : List Value → Items
items_of [] = no_items
items_of (v ∷ vs) = item (tree v) (items_of vs)

abbrev pub names_of : List Pair → List (List ℕ)
names_of ps = map (λ p. p.name) ps
