-- The laws of key texts.
use Rattle.std.proofs.Common.{◌≡◌, ℕ, ◌+◌, ◌^◌, ◌<◌, List, [], ◌∷◌, ◌++◌, length, refl, sym, ◌∙◌, ap, subst, arith, append_assoc}
use Rattle.std.proofs.lemmas.List.{length-append}
use Rattle.std.specs.Fmt.{decimal}
use Rattle.std.specs.declared.cmp.Ordering.{Ordering}
use Rattle.std.specs.declared.cmp.Ordering.TheVariants.{Less, Equal, Greater}
use Rattle.std.specs.Ordering.{ordering_then, ordering_reverse, nat_cmp}
use Rattle.std.specs.Cmp.{nat_cmp_is}
use Rattle.std.specs.Cmp.Lexicographic.{slice_cmp}
use Rattle.std.proofs.lemmas.Cmp.{nat_list_cmp_total, tied_itself}
use Rattle.std.proofs.lemmas.Map.Lookups.{exact_bytes, exact_unsigned}
use Rattle.bson.specs.Tree.{Scalar, text, binary, object_id, boolean, date, null, int32, timestamp, int64, min_key, max_key, Tree, scalar, document, array}
use Rattle.bson.specs.Tree.{Pairs, no_pairs, pair, Items, no_items, item}
use Rattle.bson.specs.Lawful.{IsName, IsScalar, IsTree, IsPairs, IsItems}
use Rattle.bson.specs.Spelling.{tree_bytes, pairs_bytes, items_bytes}
use Rattle.value_order.specs.Order.{class, bytes_cmp, compare, Key, empty_array, value, key_cmp}
use Rattle.value_order.specs.KeyText.{scalar_text, content_text, pairs_text, items_text, tree_text, key_text, directed_text, directed_cmp}
use Rattle.value_order.specs.Laws.{IsKey, TextsOrder, TextsAgree, NoneBegins}
use Rattle.value_order.specs.declared.texts.Direction.{Direction}
use Rattle.value_order.specs.declared.texts.Direction.TheVariants as directions
use Rattle.key_order.specs.SortingLaws.{SortsAs, SortsAs-cell, SortsAs-append, order_of}
use Rattle.value_order.specs.CodingLaws.{body, pairs_body, items_body, GoodTree, GoodPairs, GoodItems, tree_sorts, class_above}
use Rattle.value_order.proofs.ScalarLaws.{IsSized, scalar_sorts}
use Rattle.value_order.proofs.EscapingLaws.{name_sorts}
use Rattle.value_order.proofs.InversionLaws.{AreBytes, inverted_sorts}
use Rattle.value_order.proofs.ByteLaws.{tree_are_bytes}

abbrev same : ℕ → ℕ
same n = n

abbrev ended : List ℕ → List ℕ
ended n = n ++ 0 ∷ []

abbrev Good : Scalar → Type 0
Good s = IsScalar s × IsSized s

-- ---- what is short enough to be spelled has binaries whose lengths fit

sized : (s : Scalar) → length (tree_bytes (scalar s)) < 2 ^ 32 → IsSized s
unfolding tree_bytes
sized (binary k b) h = omega (arith, h)
sized other h = tt

mutual
  unfolding tree_bytes pairs_bytes items_bytes

  good_tree : (t : Tree) → IsTree t → length (tree_bytes t) < 2 ^ 32 → GoodTree nat_cmp same 0 ended scalar_text Good IsName t
  good_tree (scalar s) h small = (h, sized s small)
  good_tree (document ps) h small = good_pairs ps h (omega (arith, small, length-append (pairs_bytes ps) (0 ∷ [])))
  good_tree (array ts) h small = good_items 0 ts h (omega (arith, small, length-append (items_bytes 0 ts) (0 ∷ [])))

  good_pairs : (ps : Pairs) → IsPairs ps → length (pairs_bytes ps) < 2 ^ 32 → GoodPairs nat_cmp same 0 ended scalar_text Good IsName ps
  good_pairs no_pairs h small = tt
  good_pairs (pair n t ps) h small = (
    h.0,
    good_tree t h.1 (omega (arith, small, length-append (n ++ 0 ∷ tree_bytes t) (pairs_bytes ps), length-append n (0 ∷ tree_bytes t))),
    good_pairs ps h.3 (omega (arith, small, length-append (n ++ 0 ∷ tree_bytes t) (pairs_bytes ps))),
  )

  good_items : (i : ℕ) (ts : Items) → IsItems ts → length (items_bytes i ts) < 2 ^ 32 → GoodItems nat_cmp same 0 ended scalar_text Good IsName ts
  good_items i no_items h small = tt
  good_items i (item t ts) h small = (
    good_tree t h.0
        (omega (arith, small, length-append (decimal i ++ 0 ∷ tree_bytes t) (items_bytes (i + 1) ts), length-append (decimal i) (0 ∷ tree_bytes t))),
    good_items (i + 1) ts h.1 (omega (arith, small, length-append (decimal i ++ 0 ∷ tree_bytes t) (items_bytes (i + 1) ts))),
  )

-- ---- key texts are such a code

mutual
  content_is : (t : Tree) → content_text t ≡ body nat_cmp same 0 ended scalar_text t
  content_is (scalar s) = refl
  content_is (document ps) = pairs_are ps
  content_is (array ts) = items_are ts

  pairs_are : (ps : Pairs) → pairs_text ps ≡ pairs_body nat_cmp same 0 ended scalar_text ps
  pairs_are no_pairs = refl
  pairs_are (pair n t ps) =
      ap (λ (x : List ℕ). class t ∷ x) ((λ i. n ++ 0 ∷ (class t ∷ (content_is t i ++ pairs_are ps i)))
      ∙ sym (append_assoc n (0 ∷ []) (class t ∷ (body nat_cmp same 0 ended scalar_text t ++ pairs_body nat_cmp same 0 ended scalar_text ps))))

  items_are : (ts : Items) → items_text ts ≡ items_body nat_cmp same 0 ended scalar_text ts
  items_are no_items = refl
  items_are (item t ts) = λ i. class t ∷ (content_is t i ++ items_are ts i)

texts_sort : (t u : Tree) → GoodTree nat_cmp same 0 ended scalar_text Good IsName t → GoodTree nat_cmp same 0 ended scalar_text Good IsName u
    → SortsAs nat_cmp (tree_text t) (tree_text u) (compare t u)
texts_sort t u g h =
    subst (λ (x : List ℕ). SortsAs nat_cmp x (tree_text u) (compare t u)) (ap (λ (x : List ℕ). class t ∷ x) (sym (content_is t)))
    (subst (λ (x : List ℕ). SortsAs nat_cmp (class t ∷ body nat_cmp same 0 ended scalar_text t) x (compare t u))
    (ap (λ (x : List ℕ). class u ∷ x) (sym (content_is u)))
    (tree_sorts nat_cmp same 0 ended scalar_text Good IsName (λ m n. refl) (sym (nat_cmp_is 0 0 Equal refl))
    (λ v. sym (nat_cmp_is 0 (class v) Less (class_above v))) (λ v. sym (nat_cmp_is (class v) 0 Greater (class_above v)))
    (λ n m f k. name_sorts n m f.no_zero k.no_zero) scalar_sorts t u g h))

-- no value is of the class of an empty array
not_empty : (t : Tree) → class t ≡ 0x18 → ⊥
not_empty (scalar (text s)) e = absurd (omega (arith, e))
not_empty (scalar (binary k b)) e = absurd (omega (arith, e))
not_empty (scalar (object_id b)) e = absurd (omega (arith, e))
not_empty (scalar (boolean b)) e = absurd (omega (arith, e))
not_empty (scalar (date z)) e = absurd (omega (arith, e))
not_empty (scalar null) e = absurd (omega (arith, e))
not_empty (scalar (int32 z)) e = absurd (omega (arith, e))
not_empty (scalar (timestamp n)) e = absurd (omega (arith, e))
not_empty (scalar (int64 z)) e = absurd (omega (arith, e))
not_empty (scalar min_key) e = absurd (omega (arith, e))
not_empty (scalar max_key) e = absurd (omega (arith, e))
not_empty (document ps) e = absurd (omega (arith, e))
not_empty (array ts) e = absurd (omega (arith, e))

good_key : (t : Tree) → IsKey (value t) → GoodTree nat_cmp same 0 ended scalar_text Good IsName t
good_key t h = good_tree t h.0 (omega (arith, h.1))

keys_sort : (a b : Key) → IsKey a → IsKey b → SortsAs nat_cmp (key_text a) (key_text b) (key_cmp a b)
keys_sort empty_array empty_array g h =
    SortsAs-append nat_cmp (0x18 ∷ []) (0x18 ∷ []) [] [] _ _ (SortsAs-cell nat_cmp 0x18 0x18) (λ _. record { decides = λ x y. refl })
keys_sort empty_array (value u) g h =
    SortsAs-append nat_cmp (0x18 ∷ []) (class u ∷ []) [] (content_text u) _ _ (SortsAs-cell nat_cmp 0x18 (class u))
    (λ e. absurd (not_empty u (sym (exact_unsigned 0x18 (class u) e))))
keys_sort (value t) empty_array g h =
    SortsAs-append nat_cmp (class t ∷ []) (0x18 ∷ []) (content_text t) [] _ _ (SortsAs-cell nat_cmp (class t) 0x18)
    (λ e. absurd (not_empty t (exact_unsigned (class t) 0x18 e)))
keys_sort (value t) (value u) g h = texts_sort t u (good_key t g) (good_key u h)

key_bytes : (a : Key) → IsKey a → AreBytes (key_text a)
key_bytes empty_array h = (omega arith, tt)
key_bytes (value t) h = tree_are_bytes t h.0

directed_sort : (d : Direction) (a b : Key) → IsKey a → IsKey b → SortsAs nat_cmp (directed_text d a) (directed_text d b) (directed_cmp d a b)
directed_sort directions.Ascending a b g h = keys_sort a b g h
directed_sort directions.Descending a b g h = inverted_sorts (key_text a) (key_text b) (key_cmp a b) (key_bytes a g) (key_bytes b h) (keys_sort a b g h)

-- ---- the laws

pub texts_order : TextsOrder
texts_order d a b g h = order_of nat_cmp (directed_text d a) (directed_text d b) (directed_cmp d a b) (directed_sort d a b g h)

is_equal : (c : Ordering) → ordering_reverse c ≡ Equal → c ≡ Equal
is_equal Less e = absurd cc
is_equal Equal e = refl
is_equal Greater e = absurd cc

equal_way : (d : Direction) (a b : Key) → directed_cmp d a b ≡ Equal → key_cmp a b ≡ Equal
equal_way directions.Ascending a b e = e
equal_way directions.Descending a b e = is_equal (key_cmp a b) e

way_equal : (d : Direction) (a b : Key) → key_cmp a b ≡ Equal → directed_cmp d a b ≡ Equal
way_equal directions.Ascending a b e = e
way_equal directions.Descending a b e = ap ordering_reverse e

bytes_same : (a b : List ℕ) → a ≡ b → bytes_cmp a b ≡ Equal
bytes_same a b e = subst (λ (l : List ℕ). bytes_cmp a l ≡ Equal) e (tied_itself nat_list_cmp_total a)

pub texts_agree : TextsAgree
texts_agree d a b g h = (
  λ e. equal_way d a b (sym (texts_order d a b g h) ∙ bytes_same (directed_text d a) (directed_text d b) e),
  λ e. exact_bytes (directed_text d a) (directed_text d b) (texts_order d a b g h ∙ way_equal d a b e),
)

then_parts : (c o : Ordering) → ordering_then c o ≡ Equal → (c ≡ Equal) × (o ≡ Equal)
then_parts Less o e = absurd cc
then_parts Equal o e = (refl, e)
then_parts Greater o e = absurd cc

pub none_begins : NoneBegins
none_begins d a b x y g h e =
    let sorts = directed_sort d a b g h in
    let both = then_parts (directed_cmp d a b) (slice_cmp nat_cmp x y)
    (sym (sorts.decides x y) ∙ bytes_same (directed_text d a ++ x) (directed_text d b ++ y) e) in (
      exact_bytes (directed_text d a) (directed_text d b) (order_of nat_cmp (directed_text d a) (directed_text d b) (directed_cmp d a b) sorts ∙ both.0),
      exact_bytes x y both.1,
    )
