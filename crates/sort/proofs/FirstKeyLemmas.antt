-- The first of a list of keys is one of them, and none of them precedes it.
use Rattle.std.proofs.Common.{◌≡◌, zero, suc, Bool, true, false, List, [], ◌∷◌, refl, sym, ap, subst, ◌∙◌, arith}
use Rattle.std.specs.Prelude.{if◌then◌else◌}
use Rattle.std.specs.List.{AllByRecursion, Contains}
use Rattle.std.specs.Cmp.{IsTotalOrder}
use Rattle.std.specs.Ordering.{ordering_reverse}
use Rattle.std.specs.declared.cmp.Ordering.{Ordering}
use Rattle.std.specs.declared.cmp.Ordering.TheVariants.{Less, Equal, Greater}
use Rattle.std.proofs.lemmas.List.Elements.{Contains-append_right}
use Rattle.value_order.specs.Order.{Key, key_cmp}
use Rattle.sort.specs.Sort.{precedes, in_direction, first_key, key_among}
use Rattle.sort.specs.SortLaws.{IsFirstKey, SortsByFirstKey}
use Rattle.sort.proofs.SortLemmas.{directed_total}

in_order : Bool → Key → Key → Ordering
in_order descending a b = in_direction descending (key_cmp a b)

is_less : Ordering → Bool
is_less Less = true
is_less Equal = false
is_less Greater = false

precedes-less : (descending : Bool) (o : Ordering) → precedes descending o ≡ is_less (in_direction descending o)
unfolding is_less
precedes-less true Less = refl
precedes-less true Equal = refl
precedes-less true Greater = refl
precedes-less false Less = refl
precedes-less false Equal = refl
precedes-less false Greater = refl

module _ (R : Key → Key → Ordering) (total : IsTotalOrder R) where
  same_key : (k : Key) → is_less (R k k) ≡ false
  unfolding is_less
  same_key k = by (R k k) (total.antisymm k k)
    where
      by : (o : Ordering) → o ≡ ordering_reverse o → is_less o ≡ false
      by Less e = absurd cc
      by Equal e = refl
      by Greater e = refl

  -- nothing below k, and l isn't above k: then l is not below f either
  passed_on : (k l f : Key) → is_less (R l k) ≡ false → is_less (R k f) ≡ false → is_less (R l f) ≡ false
  unfolding is_less
  passed_on k l f a b = by (R l k) refl (R l f) refl a
    where
      no : R k f ≡ Less → is_less (R l f) ≡ false
      no e = absurd (let p = sym (ap is_less e) ∙ b in cc)

      by : (o : Ordering) → R l k ≡ o → (p : Ordering) → R l f ≡ p → is_less o ≡ false → is_less (R l f) ≡ false
      by o x Equal y h = ap is_less y
      by o x Greater y h = ap is_less y
      by Less x Less y h = absurd cc
      by Equal x Less y h = no (sym (total.congr l k f x) ∙ y)
      by Greater x Less y h = no (total.trans k l f (total.antisymm k l ∙ ap ordering_reverse x) y)

  below_first : (k l f : Key) → R l k ≡ Less → is_less (R l f) ≡ false → is_less (R k f) ≡ false
  unfolding is_less
  below_first k l f x a = by (R k f) refl
    where
      by : (p : Ordering) → R k f ≡ p → is_less (R k f) ≡ false
      by Equal y = ap is_less y
      by Greater y = ap is_less y
      by Less y = absurd (let q = sym (ap is_less (total.trans l k f x y)) ∙ a in cc)

less_is : (o : Ordering) → is_less o ≡ true → o ≡ Less
unfolding is_less
less_is Less e = refl
less_is Equal e = absurd cc
less_is Greater e = absurd cc

module _ (descending : Bool) where
  Unpreceded : Key → Key → Type 0
  Unpreceded f l = precedes descending (key_cmp l f) ≡ false

  told : (l f : Key) → is_less (in_order descending l f) ≡ false → precedes descending (key_cmp l f) ≡ false
  unfolding in_order
  told l f h = precedes-less descending (key_cmp l f) ∙ h

  back_told : (l f : Key) (b : Bool) → precedes descending (key_cmp l f) ≡ b → is_less (in_order descending l f) ≡ b
  unfolding in_order
  back_told l f b h = sym (precedes-less descending (key_cmp l f)) ∙ h

  first_of_all : (k : Key) (ls : List Key)
      → (precedes descending (key_cmp k (first_key descending k ls)) ≡ false)
      × AllByRecursion (λ l. precedes descending (key_cmp l (first_key descending k ls)) ≡ false) ls
  unfolding in_order
  first_of_all k [] = (told k k (same_key (in_order descending) (directed_total descending) k), tt)
  first_of_all k (l ∷ ls) = by (precedes descending (key_cmp l k)) refl (first_of_all l ls) (first_of_all k ls)
    where
      by : (b : Bool) → precedes descending (key_cmp l k) ≡ b
          → (precedes descending (key_cmp l (first_key descending l ls)) ≡ false)
          × AllByRecursion (λ m. precedes descending (key_cmp m (first_key descending l ls)) ≡ false) ls
          → (precedes descending (key_cmp k (first_key descending k ls)) ≡ false)
          × AllByRecursion (λ m. precedes descending (key_cmp m (first_key descending k ls)) ≡ false) ls
          → (precedes descending (key_cmp k (first_key descending (if b then l else k) ls)) ≡ false)
          × ((precedes descending (key_cmp l (first_key descending (if b then l else k) ls)) ≡ false)
          × AllByRecursion (λ m. precedes descending (key_cmp m (first_key descending (if b then l else k) ls)) ≡ false) ls)
      by true e low high =
          let f = first_key descending l ls in
          let below = less_is (in_order descending l k) (back_told l k true e) in
          (told k f (below_first (in_order descending) (directed_total descending) k l f below (back_told l f false low.0)), (low.0, low.1))
      by false e low high =
          let f = first_key descending k ls in
          (high.0, (told l f (passed_on (in_order descending) (directed_total descending) k l f (back_told l k false e) (back_told k f false high.0)), high.1))

  one_of_all : (k : Key) (ls : List Key) → Contains (k ∷ ls) (first_key descending k ls)
  one_of_all k [] = (0, omega arith, refl)
  one_of_all k (l ∷ ls) = by (precedes descending (key_cmp l k)) (one_of_all l ls) (one_of_all k ls)
    where
      front : (m : Key) → Contains (k ∷ ls) m → Contains (k ∷ l ∷ ls) m
      front m (zero, lt, is) = (0, omega arith, is)
      front m (suc i, lt, is) = (suc (suc i), omega (arith, lt), is)

      by : (b : Bool) → Contains (l ∷ ls) (first_key descending l ls) → Contains (k ∷ ls) (first_key descending k ls)
          → Contains (k ∷ l ∷ ls) (first_key descending (if b then l else k) ls)
      by true low high = Contains-append_right (k ∷ []) (l ∷ ls) (first_key descending l ls) low
      by false low high = front (first_key descending k ls) high

pub sorts_by_first_key : SortsByFirstKey
sorts_by_first_key field ps key keys e =
    subst (IsFirstKey field.1 (key ∷ keys)) (sym (ap (key_among field.1) e))
    (record { member = one_of_all field.1 key keys; first = first_of_all field.1 key keys })
