-- One step of a loop over the pairs of a document or the items of an array.
use Rattle.std.proofs.Common.{◌≡◌, ℕ, zero, suc, ◌+◌, ◌*◌, ◌<◌, ◌≤◌, List, [], ◌∷◌, length, drop, get_or, sym, ap, ◌∙◌, arith, drop-cons}
use Rattle.bson.specs.declared.value.Value.{Value}
use Rattle.bson.specs.declared.value.Pair.{Pair}
use Rattle.bson.specs.Tree.{count, count_pairs, count_items}
use Rattle.bson.specs.View.{tree, pairs_of, items_of}

-- what is left begins with the element at hand
pub drop_step : {X : Type 0} (xs : List X) (i : ℕ) (x : X) → i < length xs → x ≡ get_or xs i x → drop i xs ≡ x ∷ drop (i + 1) xs
drop_step xs i x within is =
    let next : suc i ≡ i + 1 = omega arith in
    drop-cons xs i x within ∙ (λ j. sym is j ∷ drop (next j) xs)

pub count_pair : (ps : List Pair) (i : ℕ) (p : Pair) → i < length ps → count (tree (get_or ps i p).value) ≤ count_pairs (pairs_of ps)
count_pair [] i p h = absurd (omega arith)
count_pair (q ∷ qs) zero p h = omega arith
count_pair (q ∷ qs) (suc i) p h = omega (arith, count_pair qs i p (omega arith))

pub count_item : (vs : List Value) (i : ℕ) (v : Value) → i < length vs → count (tree (get_or vs i v)) ≤ count_items (items_of vs)
count_item [] i v h = absurd (omega arith)
count_item (w ∷ ws) zero v h = omega arith
count_item (w ∷ ws) (suc i) v h = omega (arith, count_item ws i v (omega arith))

-- ---- measures of a recursion that a loop makes

pub pair_smaller : (t : ℕ) (ps : List Pair) (i : ℕ) (p : Pair) → i < length ps → p ≡ get_or ps i p → 2 * count_pairs (pairs_of ps) + 1 ≡ t
    → 2 * count (tree p.value) < t
pair_smaller t ps i p within is e = omega (arith, count_pair ps i p within, ap (λ (q : Pair). count (tree q.value)) is)

pub item_smaller : (t : ℕ) (vs : List Value) (i : ℕ) (v : Value) → i < length vs → v ≡ get_or vs i v → 2 * count_items (items_of vs) + 1 ≡ t
    → 2 * count (tree v) < t
item_smaller t vs i v within is e = omega (arith, count_item vs i v within, ap (λ (w : Value). count (tree w)) is)
