-- Going through two documents or arrays side by side.
use Rattle.std.proofs.Common.{◌≡◌, ℕ, zero, suc, ◌<◌, ◌≤◌, List, [], ◌∷◌, length, drop, get_or, refl, ◌∙◌, ap, arith}
use Rattle.std.specs.declared.cmp.Ordering.{Ordering}
use Rattle.std.specs.declared.cmp.Ordering.TheVariants.{Less, Equal, Greater}
use Rattle.std.specs.Ordering.{nat_cmp, MatchOrdering}
use Rattle.std.specs.Cmp.{nat_cmp_is, ranks}
use Rattle.bson.specs.Tree.{count, count_pairs, count_items, Pairs, Items}
use Rattle.bson.specs.View.{tree, pairs_of, items_of}
use Rattle.bson.specs.declared.value.Value.{Value}
use Rattle.bson.specs.declared.value.Value.TheVariants as values
use Rattle.bson.specs.declared.value.Pair.{Pair}
use Rattle.value_order.specs.Order.{leaf, leaf_cmp, content_cmp, pairs_cmp, items_cmp}

-- values that are not both documents and not both arrays have only themselves to compare
pub content_cmp-leaves : (v w : Value) → ((ps qs : Pairs) → v ≡ values.Document ps → w ≡ values.Document qs → ⊥)
    → ((ts us : Items) → v ≡ values.Array ts → w ≡ values.Array us → ⊥)
    → content_cmp (tree v) (tree w) ≡ leaf_cmp (leaf (tree v)) (leaf (tree w))
content_cmp-leaves (values.Document ps) (values.Document qs) documents arrays = absurd (documents ps qs refl refl)
content_cmp-leaves (values.Array ts) (values.Array us) documents arrays = absurd (arrays ts us refl refl)
content_cmp-leaves v w documents arrays = refl

next_cmp : (m n : ℕ) → nat_cmp m n ≡ nat_cmp (suc m) (suc n)
next_cmp m n = nat_cmp_is (suc m) (suc n) (nat_cmp m n) (by (nat_cmp m n) (ranks m n))
  where
    by : (o : Ordering) → MatchOrdering o (m < n) (m ≡ n) (n < m) → MatchOrdering o (suc m < suc n) (suc m ≡ suc n) (suc n < suc m)
    by Less h = omega (arith, h)
    by Equal h = ap suc h
    by Greater h = omega (arith, h)

-- a value in a list counts for less than the list
pub item_smaller : (vs : List Value) (i : ℕ) (v : Value) → i < length vs → v ≡ get_or vs i v → count (tree v) ≤ count_items (items_of vs)
item_smaller [] i v lt is = absurd (omega arith)
item_smaller (w ∷ ws) zero v lt is = omega (arith, ap (λ (x : Value). count (tree x)) is)
item_smaller (w ∷ ws) (suc i) v lt is = omega (arith, item_smaller ws i v (omega arith) is)

pub pair_smaller : (ps : List Pair) (i : ℕ) (p : Pair) → i < length ps → p ≡ get_or ps i p → count (tree p.value) ≤ count_pairs (pairs_of ps)
pair_smaller [] i p lt is = absurd (omega arith)
pair_smaller (q ∷ qs) zero p lt is = omega (arith, ap (λ (x : Pair). count (tree x.value)) is)
pair_smaller (q ∷ qs) (suc i) p lt is = omega (arith, pair_smaller qs i p (omega arith) is)

-- where the first list has ended, its length decides
pub items_end : (vs ws : List Value) (i : ℕ) → length vs ≤ i → i ≤ length ws → i ≤ length vs
    → items_cmp (items_of (drop i vs)) (items_of (drop i ws)) ≡ nat_cmp (length vs) (length ws)
items_end [] [] zero all within far = nat_cmp_is 0 0 Equal refl
items_end [] (w ∷ ws) zero all within far = nat_cmp_is 0 (suc (length ws)) Less (omega arith)
items_end [] ws (suc i) all within far = absurd (omega arith)
items_end (v ∷ vs) ws zero all within far = absurd (omega arith)
items_end (v ∷ vs) [] (suc i) all within far = absurd (omega arith)
items_end (v ∷ vs) (w ∷ ws) (suc i) all within far = items_end vs ws i (omega arith) (omega arith) (omega arith) ∙ next_cmp (length vs) (length ws)

pub pairs_end : (ps qs : List Pair) (i : ℕ) → length ps ≤ i → i ≤ length qs → i ≤ length ps
    → pairs_cmp (pairs_of (drop i ps)) (pairs_of (drop i qs)) ≡ nat_cmp (length ps) (length qs)
pairs_end [] [] zero all within far = nat_cmp_is 0 0 Equal refl
pairs_end [] (q ∷ qs) zero all within far = nat_cmp_is 0 (suc (length qs)) Less (omega arith)
pairs_end [] qs (suc i) all within far = absurd (omega arith)
pairs_end (p ∷ ps) qs zero all within far = absurd (omega arith)
pairs_end (p ∷ ps) [] (suc i) all within far = absurd (omega arith)
pairs_end (p ∷ ps) (q ∷ qs) (suc i) all within far = pairs_end ps qs i (omega arith) (omega arith) (omega arith) ∙ next_cmp (length ps) (length qs)
