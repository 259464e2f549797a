-- A sort in its own words: the same documents, none below an earlier one, and those that tie in the
-- order given.
use Rattle.std.specs.Prelude.{◌≡◌, ℕ, Bool, false, List, [], ◌∷◌, ◌++◌, take}
use Rattle.std.specs.List.{AllByRecursion, Contains, flat_map}
use Rattle.std.specs.List.Sorted.{IsPermutation, IsSorted, IsStable}
use Rattle.std.specs.Cmp.{IsTotalOrder}
use Rattle.std.specs.declared.cmp.Ordering.{Ordering}
use Rattle.std.specs.declared.cmp.Ordering.TheVariants.{Less, Equal, Greater}
use Rattle.std.proofs.lemmas.List.Sorted.{IsPermutation-refl, IsPermutation-trans}
use Rattle.std.proofs.lemmas.List.Sorted.{IsPermutation-cons, IsPermutation-insert}
use Rattle.bson.specs.Tree.{Pairs, document}
use Rattle.path.specs.Reach.{reach}
use Rattle.value_order.specs.Order.{Key, key_cmp}
use Rattle.sort.specs.Sort.{SortField, keys_of, precedes, sort_key, compare_by, put_before}
use Rattle.sort.specs.Sort.{insert_in_order, sorted, order}

pub record IsOrdered (fields : List SortField) (documents : List Pairs) : Type 0 where
  pub same : IsPermutation documents (order fields documents)
  pub rising : IsSorted (compare_by fields) (order fields documents)
  pub stable : IsStable (compare_by fields) documents (order fields documents)

abbrev pub OrdersStably : Type 0
OrdersStably = (fields : List SortField)
    → IsTotalOrder (compare_by fields) × ((documents : List Pairs) → IsOrdered fields documents)

-- The first documents in order are told by the first ones of some documents, in order, and by all
-- others.
abbrev pub SortsInParts : Type 0
SortsInParts = (fields : List SortField) (n : ℕ) (some others : List Pairs)
    → take n (order fields (take n (order fields some) ++ others))
    ≡ take n (order fields (some ++ others))

-- a key that is one of these, and that none of these precedes
pub record IsFirstKey (descending : Bool) (keys : List Key) (key : Key) : Type 0 where
  pub member : Contains keys key
  pub first : AllByRecursion (λ other. precedes descending (key_cmp other key) ≡ false) keys

-- a document's key at a field is the first of the keys that it has there
abbrev pub SortsByFirstKey : Type 0
SortsByFirstKey =
    (field : SortField) (ps : Pairs) (key : Key) (keys : List Key)
    → flat_map keys_of (reach field.0 (document ps)) ≡ key ∷ keys
    → IsFirstKey field.1 (key ∷ keys) (sort_key field ps)

-- ---- whatever the comparison

module _ {A : Type 0} (cmp : A → A → Ordering) where
  insert-permuted : (x : A) (ys : List A) → IsPermutation (x ∷ ys) (insert_in_order cmp x ys)
  insert-permuted x [] = IsPermutation-refl (x ∷ [])
  insert-permuted x (y ∷ ys) = by (cmp x y) (insert-permuted x ys)
    where
      by : (c : Ordering) → IsPermutation (x ∷ ys) (insert_in_order cmp x ys)
          → IsPermutation (x ∷ y ∷ ys) (put_before c x y (insert_in_order cmp x ys) ys)
      by Less later = IsPermutation-refl (x ∷ y ∷ ys)
      by Equal later = IsPermutation-refl (x ∷ y ∷ ys)
      by Greater later =
          IsPermutation-trans (x ∷ y ∷ ys) (y ∷ x ∷ ys) (y ∷ insert_in_order cmp x ys)
          (IsPermutation-insert (y ∷ ys) 1 x)
          (IsPermutation-cons y (x ∷ ys) (insert_in_order cmp x ys) later)

  pub sorted-permuted : (xs : List A) → IsPermutation xs (sorted cmp xs)
  sorted-permuted [] = IsPermutation-refl []
  sorted-permuted (x ∷ xs) =
      IsPermutation-trans (x ∷ xs) (x ∷ sorted cmp xs) (insert_in_order cmp x (sorted cmp xs))
      (IsPermutation-cons x xs (sorted cmp xs) (sorted-permuted xs))
      (insert-permuted x (sorted cmp xs))

  pub All-insert : (P : A → Type 0) (x : A) (ys : List A) → P x → AllByRecursion P ys
      → AllByRecursion P (insert_in_order cmp x ys)
  All-insert P x [] p h = (p, tt)
  All-insert P x (y ∷ ys) p h = by (cmp x y) (All-insert P x ys p h.1)
    where
      by : (c : Ordering) → AllByRecursion P (insert_in_order cmp x ys)
          → AllByRecursion P (put_before c x y (insert_in_order cmp x ys) ys)
      by Less later = (p, h)
      by Equal later = (p, h)
      by Greater later = (h.0, later)

  -- what holds of each holds of each in order
  pub All-sorted : (P : A → Type 0) (xs : List A) → AllByRecursion P xs
      → AllByRecursion P (sorted cmp xs)
  All-sorted P [] h = tt
  All-sorted P (x ∷ xs) h = All-insert P x (sorted cmp xs) h.0 (All-sorted P xs h.1)
