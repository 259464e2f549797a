-- The order of values is a total order: that of lists of integers, as which values can be written.
use Rattle.std.proofs.Common.{◌≡◌, ℕ, suc, ◌<◌, ℤ, pos, List, [], ◌∷◌, refl, sym, ap, subst, arith}
use Rattle.std.specs.Prelude.{◌<ℤ◌}
use Rattle.std.proofs.lemmas.Int.{ints}
use Rattle.std.specs.declared.cmp.Ordering.{Ordering}
use Rattle.std.specs.declared.cmp.Ordering.TheVariants.{Less, Equal, Greater}
use Rattle.std.specs.Ordering.{nat_cmp, int_cmp, MatchOrdering}
use Rattle.std.specs.Cmp.{int_cmp_is, int_cmp_total, ranks, IsTotalOrder, on_total}
use Rattle.std.specs.Cmp.Lexicographic.{slice_cmp, lists_total}
use Rattle.bson.specs.Tree.{Scalar, Tree, scalar, document, array, Pairs, no_pairs, pair, Items}
use Rattle.bson.specs.Tree.{no_items, item}
use Rattle.value_order.specs.Order.{class, bytes_cmp, Leaf, scalar_leaf, leaf_cmp, compare}
use Rattle.key_order.specs.SortingLaws.{SortsAs, SortsAs-cell, SortsAs-is, SortsAs-append}
use Rattle.key_order.specs.SortingLaws.{SortsAs-less, SortsAs-greater, order_of}
use Rattle.value_order.specs.CodingLaws.{body, GoodTree, GoodPairs, GoodItems, tree_sorts}
use Rattle.value_order.specs.CodingLaws.{class_above}

pos_cmp : (m n : ℕ) → int_cmp (pos m) (pos n) ≡ nat_cmp m n
pos_cmp m n = sym (int_cmp_is (pos m) (pos n) (nat_cmp m n) (by (nat_cmp m n) (ranks m n)))
  where
    by : (o : Ordering) → MatchOrdering o (m < n) (m ≡ n) (n < m)
        → MatchOrdering o (pos m <ℤ pos n) (pos m ≡ pos n) (pos n <ℤ pos m)
    by Less h = omega (arith, ints, h)
    by Equal h = ap pos h
    by Greater h = omega (arith, ints, h)

next_cmp : (m n : ℕ) → int_cmp (pos (suc m)) (pos (suc n)) ≡ nat_cmp m n
next_cmp m n =
    sym (int_cmp_is (pos (suc m)) (pos (suc n)) (nat_cmp m n) (by (nat_cmp m n) (ranks m n)))
  where
    by : (o : Ordering) → MatchOrdering o (m < n) (m ≡ n) (n < m)
        → MatchOrdering o (pos (suc m) <ℤ pos (suc n)) (pos (suc m) ≡ pos (suc n))
        (pos (suc n) <ℤ pos (suc m))
    by Less h = omega (arith, ints, h)
    by Equal h = ap (λ (k : ℕ). pos (suc k)) h
    by Greater h = omega (arith, ints, h)

stop_less : (n : ℕ) → 0 < n → int_cmp (pos 0) (pos n) ≡ Less
stop_less n h = sym (int_cmp_is (pos 0) (pos n) Less (omega (arith, ints, h)))

stop_greater : (n : ℕ) → 0 < n → int_cmp (pos n) (pos 0) ≡ Greater
stop_greater n h = sym (int_cmp_is (pos n) (pos 0) Greater (omega (arith, ints, h)))

-- bytes, each one higher, and a zero that ends them
abbrev word : List ℕ → List ℤ
word [] = pos 0 ∷ []
word (b ∷ bs) = pos (suc b) ∷ word bs

word_sorts : (n m : List ℕ) → SortsAs int_cmp (word n) (word m) (bytes_cmp n m)
word_sorts [] [] = SortsAs-cell int_cmp (pos 0) (pos 0)
word_sorts [] (c ∷ m) =
    SortsAs-less int_cmp (pos 0) (pos (suc c)) [] (word m) (stop_less (suc c) (omega arith))
word_sorts (b ∷ n) [] =
    SortsAs-greater int_cmp (pos (suc b)) (pos 0) (word n) [] (stop_greater (suc b) (omega arith))
word_sorts (b ∷ n) (c ∷ m) =
    SortsAs-append int_cmp (pos (suc b) ∷ []) (pos (suc c) ∷ []) (word n) (word m) (nat_cmp b c)
    (bytes_cmp n m)
    (SortsAs-is int_cmp _ _ _ _ (next_cmp b c) (SortsAs-cell int_cmp (pos (suc b)) (pos (suc c))))
    (λ _. word_sorts n m)

abbrev cells : Leaf → List ℤ
cells a = a.signed ∷ pos a.unsigned ∷ pos a.subtype ∷ word a.bytes

number_sorts : (m n : ℕ) → SortsAs int_cmp (pos m ∷ []) (pos n ∷ []) (nat_cmp m n)
number_sorts m n = SortsAs-is int_cmp _ _ _ _ (pos_cmp m n) (SortsAs-cell int_cmp (pos m) (pos n))

leaf_sorts : (a b : Leaf) → SortsAs int_cmp (cells a) (cells b) (leaf_cmp a b)
leaf_sorts a b =
    SortsAs-append int_cmp (a.signed ∷ []) (b.signed ∷ []) _ _ _ _
    (SortsAs-cell int_cmp a.signed b.signed) (λ _.
    SortsAs-append int_cmp (pos a.unsigned ∷ []) (pos b.unsigned ∷ []) _ _ _ _
    (number_sorts a.unsigned b.unsigned) (λ _.
    SortsAs-append int_cmp (pos a.subtype ∷ []) (pos b.subtype ∷ []) _ _ _ _
    (number_sorts a.subtype b.subtype) (λ _. word_sorts a.bytes b.bytes)))

abbrev leaf : Scalar → List ℤ
leaf s = cells (scalar_leaf s)

abbrev Any : {X : Type 0} → X → Type 0
Any x = Unit {0}

mutual
  any_tree : (t : Tree) → GoodTree int_cmp pos (pos 0) word leaf Any Any t
  any_tree (scalar s) = tt
  any_tree (document ps) = any_pairs ps
  any_tree (array ts) = any_items ts

  any_pairs : (ps : Pairs) → GoodPairs int_cmp pos (pos 0) word leaf Any Any ps
  any_pairs no_pairs = tt
  any_pairs (pair n t ps) = (tt, any_tree t, any_pairs ps)

  any_items : (ts : Items) → GoodItems int_cmp pos (pos 0) word leaf Any Any ts
  any_items no_items = tt
  any_items (item t ts) = (any_tree t, any_items ts)

abbrev spine : Tree → List ℤ
spine t = pos (class t) ∷ body int_cmp pos (pos 0) word leaf t

spine_order : (t u : Tree) → slice_cmp int_cmp (spine t) (spine u) ≡ compare t u
spine_order t u =
    order_of int_cmp (spine t) (spine u) (compare t u)
    (tree_sorts int_cmp pos (pos 0) word leaf Any Any pos_cmp refl
    (λ v. stop_less (class v) (class_above v)) (λ v. stop_greater (class v) (class_above v))
    (λ n m _ _. word_sorts n m) (λ s r _ _ _. leaf_sorts (scalar_leaf s) (scalar_leaf r)) t u
    (any_tree t) (any_tree u))

pub compare_total : IsTotalOrder compare
compare_total =
    subst (λ (R : Tree → Tree → Ordering). IsTotalOrder R) (λ i t u. spine_order t u i)
    (on_total spine (lists_total int_cmp_total))
