-- What a document or an array holds counts fewer values than it does.
use Rattle.std.specs.Prelude.{◌≤◌, max, List, [], ◌∷◌}
use Rattle.std.proofs.Common.{arith}
use denote.Param.Weighed.{most}
use Rattle.bson.specs.Tree.{count, count_pairs, count_items}
use Rattle.bson.specs.View.{tree, pairs_of, items_of}
use Rattle.bson.specs.declared.value.Value.{Value}
use Rattle.bson.specs.declared.value.Value.TheVariants as values
use Rattle.bson.specs.declared.value.Pair.{Pair}
use Rattle.bson.specs.declared.value.Array.TheDeep.{deep-Value, deep-Pair}

pub deep_le-count : (v : Value) → deep-Value v ≤ count (tree v)
deep_le-count (values.String s) = omega arith
deep_le-count (values.Document ps) = omega arith
deep_le-count (values.Array ts) = omega arith
deep_le-count (values.Binary b) = omega arith
deep_le-count (values.ObjectId bytes) = omega arith
deep_le-count (values.Bool b) = omega arith
deep_le-count (values.Date z) = omega arith
deep_le-count values.Null = omega arith
deep_le-count (values.Int32 z) = omega arith
deep_le-count (values.Timestamp n) = omega arith
deep_le-count (values.Int64 z) = omega arith
deep_le-count values.MinKey = omega arith
deep_le-count values.MaxKey = omega arith

pub most_le-count_pairs : (ps : List Pair) → max (most deep-Pair ps) 0 ≤ count_pairs (pairs_of ps)
most_le-count_pairs [] = omega arith
most_le-count_pairs (p ∷ ps) = omega (arith, deep_le-count p.value, most_le-count_pairs ps)

pub most_le-count_items : (vs : List Value) → max (most deep-Value vs) 0 ≤ count_items (items_of vs)
most_le-count_items [] = omega arith
most_le-count_items (v ∷ vs) = omega (arith, deep_le-count v, most_le-count_items vs)
