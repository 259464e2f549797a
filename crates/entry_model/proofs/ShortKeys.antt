-- A value with a short key text has a short spelling.
use Rattle.std.proofs.Common.{◌≡◌, ℕ, ◌+◌, ◌*◌, ◌≤◌, [], ◌∷◌, ◌++◌, length, refl, arith, length-append, zero, suc, List}
use Rattle.std.proofs.lemmas.Fmt.{length-decimal-le}
use Rattle.bson.specs.Tree.{Scalar, text, binary, object_id, boolean, date, null, int32, timestamp, int64, min_key, max_key, Tree, scalar, document, array}
use Rattle.bson.specs.Tree.{Pairs, no_pairs, pair, Items, no_items, item}
use Rattle.bson.specs.SizingLaws.{frame_of-length, pairs_size-pair, items_size-item}
use Rattle.bson.specs.Spelling.{tree_bytes, pairs_bytes, items_bytes}
use Rattle.value_order.specs.KeyText.{content_text, pairs_text, items_text, tree_text, escaped_text}
use Rattle.value_order.specs.Order.{class}
use Rattle.entry_model.specs.FoundLaws.{ShortIsKey}

pub escaped_long : (bs : List ℕ) → length bs + 2 ≤ length (escaped_text bs)
escaped_long [] = omega arith
escaped_long (zero ∷ bs) = omega (arith, escaped_long bs)
escaped_long (suc b ∷ bs) = omega (arith, escaped_long bs)

scalar_short : (s : Scalar) → length (tree_bytes (scalar s)) + 6 ≤ 8 * length (tree_text (scalar s))
unfolding tree_bytes
scalar_short (text s) = omega (arith, length-append s (0 ∷ []), escaped_long s)
scalar_short (binary subtype bytes) = omega arith
scalar_short (object_id bytes) = omega arith
scalar_short (boolean b) = omega arith
scalar_short (date z) = omega arith
scalar_short null = omega arith
scalar_short (int32 z) = omega arith
scalar_short (timestamp n) = omega arith
scalar_short (int64 z) = omega arith
scalar_short min_key = omega arith
scalar_short max_key = omega arith

document_size : (ps : Pairs) → length (tree_bytes (document ps)) ≡ length (pairs_bytes ps) + 5
unfolding tree_bytes
document_size ps = frame_of-length (pairs_bytes ps)

array_size : (ts : Items) → length (tree_bytes (array ts)) ≡ length (items_bytes 0 ts) + 5
unfolding tree_bytes
array_size ts = frame_of-length (items_bytes 0 ts)

no_pairs_size : length (pairs_bytes no_pairs) ≡ 0
unfolding pairs_bytes
no_pairs_size = refl

no_items_size : (i : ℕ) → length (items_bytes i no_items) ≡ 0
unfolding items_bytes
no_items_size i = refl

mutual
  tree_short : (t : Tree) → length (tree_text t) ≤ 5000 → length (tree_bytes t) + 6 ≤ 8 * length (tree_text t)
  tree_short (scalar s) few = scalar_short s
  tree_short (document ps) few = omega (arith, document_size ps, pairs_short ps (omega (arith, few)))
  tree_short (array ts) few = omega (arith, array_size ts, items_short 0 ts (omega (arith, few)))

  pairs_short : (ps : Pairs) → length (pairs_text ps) ≤ 5000 → length (pairs_bytes ps) + 8 ≤ 8 * length (pairs_text ps)
  pairs_short no_pairs few = omega (arith, no_pairs_size)
  pairs_short (pair name t ps) few =
      let long = length-append name (0 ∷ (class t ∷ (content_text t ++ pairs_text ps))) in
      let parts = length-append (content_text t) (pairs_text ps) in
      let here = tree_short t (omega (arith, few, long, parts)) in
      let rest = pairs_short ps (omega (arith, few, long, parts)) in
      omega (arith, pairs_size-pair name t ps, long, parts, here, rest)

  -- the name of an item has at most four digits
  items_short : (i : ℕ) (ts : Items) → i + length (items_text ts) ≤ 5000 → length (items_bytes i ts) + 8 ≤ 8 * length (items_text ts)
  items_short i no_items few = omega (arith, no_items_size i)
  items_short i (item t ts) few =
      let parts = length-append (content_text t) (items_text ts) in
      let here = tree_short t (omega (arith, few, parts)) in
      let rest = items_short (i + 1) ts (omega (arith, few, parts)) in
      omega (arith, items_size-item i t ts, length-decimal-le 4 i (omega arith) (omega (arith, few)) (omega (arith, few)), parts, here, rest)

pub short_is_key : ShortIsKey
short_is_key t lawful short = (lawful, omega (arith, tree_short t (omega (arith, short)), short))
