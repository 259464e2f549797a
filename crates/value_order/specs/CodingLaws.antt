-- A way to write values as lists of cells that keeps the order of classes, names and scalars keeps
-- the order of values.
use Rattle.std.proofs.Common.{◌≡◌, ℕ, ◌<◌, List, [], ◌∷◌, ◌++◌, sym, ap, arith}
use Rattle.std.specs.declared.cmp.Ordering.{Ordering}
use Rattle.std.specs.declared.cmp.Ordering.TheVariants.{Less, Equal, Greater}
use Rattle.std.specs.Ordering.{ordering_then, nat_cmp}
use Rattle.std.specs.Cmp.{nat_cmp_is}
use Rattle.std.proofs.lemmas.Map.Lookups.{exact_unsigned}
use Rattle.bson.specs.Tree.{Scalar, text, binary, object_id, boolean, date, null, int32, timestamp}
use Rattle.bson.specs.Tree.{int64, min_key, max_key, Tree, scalar, document, array, Pairs, no_pairs}
use Rattle.bson.specs.Tree.{pair, Items, no_items, item}
use Rattle.value_order.specs.Order.{scalar_class, class, bytes_cmp, scalar_leaf, leaf_cmp}
use Rattle.value_order.specs.Order.{content_cmp, pairs_cmp, items_cmp, compare}
use Rattle.key_order.specs.SortingLaws.{SortsAs, SortsAs-cell, SortsAs-is, SortsAs-append}
use Rattle.key_order.specs.SortingLaws.{SortsAs-less, SortsAs-greater}

-- no scalar is of the class of documents or of arrays
nested_class : (s : Scalar) → (scalar_class s ≡ 0x50 → ⊥) × (scalar_class s ≡ 0x60 → ⊥)
nested_class (text s) = (λ e. absurd (omega (arith, e)), λ e. absurd (omega (arith, e)))
nested_class (binary k b) = (λ e. absurd (omega (arith, e)), λ e. absurd (omega (arith, e)))
nested_class (object_id b) = (λ e. absurd (omega (arith, e)), λ e. absurd (omega (arith, e)))
nested_class (boolean b) = (λ e. absurd (omega (arith, e)), λ e. absurd (omega (arith, e)))
nested_class (date z) = (λ e. absurd (omega (arith, e)), λ e. absurd (omega (arith, e)))
nested_class null = (λ e. absurd (omega (arith, e)), λ e. absurd (omega (arith, e)))
nested_class (int32 z) = (λ e. absurd (omega (arith, e)), λ e. absurd (omega (arith, e)))
nested_class (timestamp n) = (λ e. absurd (omega (arith, e)), λ e. absurd (omega (arith, e)))
nested_class (int64 z) = (λ e. absurd (omega (arith, e)), λ e. absurd (omega (arith, e)))
nested_class min_key = (λ e. absurd (omega (arith, e)), λ e. absurd (omega (arith, e)))
nested_class max_key = (λ e. absurd (omega (arith, e)), λ e. absurd (omega (arith, e)))

-- classes are above the byte that ends documents and arrays
pub class_above : (t : Tree) → 0 < class t
class_above (scalar (text s)) = omega arith
class_above (scalar (binary k b)) = omega arith
class_above (scalar (object_id b)) = omega arith
class_above (scalar (boolean b)) = omega arith
class_above (scalar (date z)) = omega arith
class_above (scalar null) = omega arith
class_above (scalar (int32 z)) = omega arith
class_above (scalar (timestamp n)) = omega arith
class_above (scalar (int64 z)) = omega arith
class_above (scalar min_key) = omega arith
class_above (scalar max_key) = omega arith
class_above (document ps) = omega arith
class_above (array ts) = omega arith

pub nat_cmp-Equal : (m n : ℕ) → nat_cmp m n ≡ Equal → m ≡ n
nat_cmp-Equal m n e = exact_unsigned m n e

module _ {A : Type 0} (R : A → A → Ordering) (mark : ℕ → A) (stop : A) (word : List ℕ → List A)
    (leaf : Scalar → List A) where
  abbrev mutual
    pub body : Tree → List A
    body (scalar s) = leaf s
    body (document ps) = pairs_body ps
    body (array ts) = items_body ts

    pub pairs_body : Pairs → List A
    pairs_body no_pairs = stop ∷ []
    pairs_body (pair n t ps) =
        mark (class t) ∷ (word n ++ (mark (class t) ∷ (body t ++ pairs_body ps)))

    pub items_body : Items → List A
    items_body no_items = stop ∷ []
    items_body (item t ts) = mark (class t) ∷ (body t ++ items_body ts)

  module _ (Good : Scalar → Type 0) (Word : List ℕ → Type 0) where
    abbrev mutual
      pub GoodTree : Tree → Type 0
      GoodTree (scalar s) = Good s
      GoodTree (document ps) = GoodPairs ps
      GoodTree (array ts) = GoodItems ts

      pub GoodPairs : Pairs → Type 0
      GoodPairs no_pairs = Unit {0}
      GoodPairs (pair n t ps) = Word n × GoodTree t × GoodPairs ps

      pub GoodItems : Items → Type 0
      GoodItems no_items = Unit {0}
      GoodItems (item t ts) = GoodTree t × GoodItems ts

    module _ (marks : (m n : ℕ) → R (mark m) (mark n) ≡ nat_cmp m n) (ends : R stop stop ≡ Equal)
        (below : (t : Tree) → R stop (mark (class t)) ≡ Less) (above : (t : Tree)
        → R (mark (class t)) stop ≡ Greater)
        (words : (n m : List ℕ) → Word n → Word m → SortsAs R (word n) (word m) (bytes_cmp n m))
        (leaves : (s r : Scalar) → Good s → Good r → scalar_class s ≡ scalar_class r
        → SortsAs R (leaf s) (leaf r) (leaf_cmp (scalar_leaf s) (scalar_leaf r))) where
      -- a class and then what its values are compared by
      marked : (t u : Tree) (a b : List A) (c : Ordering) → (class t ≡ class u → SortsAs R a b c)
          → SortsAs R (mark (class t) ∷ a) (mark (class u) ∷ b)
          (ordering_then (nat_cmp (class t) (class u)) c)
      marked t u a b c rest =
          SortsAs-append R (mark (class t) ∷ []) (mark (class u) ∷ []) a b
          (nat_cmp (class t) (class u)) c
          (SortsAs-is R _ _ _ _ (marks (class t) (class u))
          (SortsAs-cell R (mark (class t)) (mark (class u))))
          (λ e. rest (nat_cmp-Equal (class t) (class u) e))

      -- the class again, where it is the same
      again : (t u : Tree) (a b : List A) (c : Ordering) → class t ≡ class u → SortsAs R a b c
          → SortsAs R (mark (class t) ∷ a) (mark (class u) ∷ b) c
      again t u a b c e rest =
          SortsAs-is R _ _ _ _
          (ap (λ (o : Ordering). ordering_then o c) (equal (class t) (class u) e))
          (marked t u a b c (λ _. rest))
        where
          equal : (m n : ℕ) → m ≡ n → nat_cmp m n ≡ Equal
          equal m n e = sym (nat_cmp_is m n Equal e)

      mutual
        content_sorts : (t u : Tree) → GoodTree t → GoodTree u → class t ≡ class u
            → SortsAs R (body t) (body u) (content_cmp t u)
        content_sorts (scalar s) (scalar r) g h e = leaves s r g h e
        content_sorts (scalar s) (document qs) g h e = absurd ((nested_class s).0 e)
        content_sorts (scalar s) (array us) g h e = absurd ((nested_class s).1 e)
        content_sorts (document ps) (scalar r) g h e = absurd ((nested_class r).0 (sym e))
        content_sorts (document ps) (document qs) g h e = pairs_sort ps qs g h
        content_sorts (document ps) (array us) g h e = absurd (omega (arith, e))
        content_sorts (array ts) (scalar r) g h e = absurd ((nested_class r).1 (sym e))
        content_sorts (array ts) (document qs) g h e = absurd (omega (arith, e))
        content_sorts (array ts) (array us) g h e = items_sort ts us g h

        pairs_sort : (ps qs : Pairs) → GoodPairs ps → GoodPairs qs
            → SortsAs R (pairs_body ps) (pairs_body qs) (pairs_cmp ps qs)
        pairs_sort no_pairs no_pairs g h = SortsAs-is R _ _ _ _ ends (SortsAs-cell R stop stop)
        pairs_sort no_pairs (pair m u qs) g h = SortsAs-less R _ _ _ _ (below u)
        pairs_sort (pair n t ps) no_pairs g h = SortsAs-greater R _ _ _ _ (above t)
        pairs_sort (pair n t ps) (pair m u qs) g h =
            marked t u _ _ _ (λ same.
            SortsAs-append R (word n) (word m) _ _ _ _ (words n m g.0 h.0) (λ _.
            again t u _ _ _ same
            (SortsAs-append R (body t) (body u) _ _ _ _ (content_sorts t u g.1 h.1 same)
            (λ _. pairs_sort ps qs g.2 h.2))))

        items_sort : (ts us : Items) → GoodItems ts → GoodItems us
            → SortsAs R (items_body ts) (items_body us) (items_cmp ts us)
        items_sort no_items no_items g h = SortsAs-is R _ _ _ _ ends (SortsAs-cell R stop stop)
        items_sort no_items (item u us) g h = SortsAs-less R _ _ _ _ (below u)
        items_sort (item t ts) no_items g h = SortsAs-greater R _ _ _ _ (above t)
        items_sort (item t ts) (item u us) g h =
            marked t u _ _ _ (λ same.
            SortsAs-append R (body t) (body u) _ _ _ _ (content_sorts t u g.0 h.0 same)
            (λ _. items_sort ts us g.1 h.1))

      pub tree_sorts : (t u : Tree) → GoodTree t → GoodTree u
          → SortsAs R (mark (class t) ∷ body t) (mark (class u) ∷ body u) (compare t u)
      tree_sorts t u g h = marked t u _ _ _ (content_sorts t u g h)
