-- The set of some lists of bytes is the one list of them that ascends.
use Rattle.std.proofs.Common.{◌≡◌, ℕ, Bool, true, false, ◌||◌, List, [], ◌∷◌, refl, sym, ap, subst, ◌∙◌}
use Rattle.std.specs.Prelude.{⊤, cond, nat_eq}
use Rattle.std.specs.Global.{Vec}
use Rattle.std.specs.List.{AllByRecursion, list_any, dedup, dedup_from}
use Rattle.std.specs.List.Sorted.{IsPermutation, IsSorted, IsStrictlySortedBy}
use Rattle.std.proofs.lemmas.List.Kept.{IsStrictlySortedBy-dedup}
use Rattle.std.proofs.lemmas.List.Sorted.{list_any-IsPermutation}
use Rattle.std.proofs.lemmas.Map.Keys.{sorted_head, sorted_tail}
use Rattle.index.specs.View.{texts_of}
use Rattle.std.specs.declared.cmp.Ordering.{Ordering}
use Rattle.std.specs.declared.cmp.Ordering.TheVariants.{Less, Equal, Greater}
use Rattle.std.specs.Ordering.{is_eq, ordering_reverse}
use Rattle.std.specs.Cmp.Lexicographic.{nat_list_cmp_total, on_texts, pointwise, texts_ties, same_text}
use Rattle.std.proofs.lemmas.Cmp.{tied_itself}
use Rattle.std.proofs.lemmas.Map.Lookups.{exact_bytes}
use Rattle.value_order.specs.Order.{bytes_cmp}
use Rattle.index.specs.Changes.{IsAscending, is_among}
use Rattle.index.specs.KeyTexts.{put_at, put_key, ascending_set}

abbrev Below : List ℕ → List (List ℕ) → Type 0
Below k ls = AllByRecursion (λ l. bytes_cmp k l ≡ Less) ls

abbrev Rises : List (List ℕ) → Type 0
Rises [] = ⊤
Rises (k ∷ ks) = Below k ks × Rises ks

rises : (ks : List (List ℕ)) → IsStrictlySortedBy bytes_cmp ks → Rises ks
unfolding IsStrictlySortedBy
rises [] h = tt
rises (k ∷ ks) h = (h.0, rises ks h.1)

sorted : (ks : List (List ℕ)) → Rises ks → IsStrictlySortedBy bytes_cmp ks
unfolding IsStrictlySortedBy
sorted [] h = tt
sorted (k ∷ ks) h = (h.0, sorted ks h.1)

-- ---- tests

pub same_itself : (k : List ℕ) → is_eq (bytes_cmp k k) ≡ true
same_itself k = ap is_eq (tied_itself nat_list_cmp_total k)

over_below : (k l : List ℕ) → bytes_cmp k l ≡ Less → bytes_cmp l k ≡ Greater
over_below k l e = nat_list_cmp_total.antisymm l k ∙ ap ordering_reverse e

below_over : (k l : List ℕ) → bytes_cmp k l ≡ Greater → bytes_cmp l k ≡ Less
below_over k l e = nat_list_cmp_total.antisymm l k ∙ ap ordering_reverse e

below_all : (j k : List ℕ) (ls : List (List ℕ)) → bytes_cmp j k ≡ Less → Below k ls → Below j ls
below_all j k [] e h = tt
below_all j k (l ∷ ls) e h = (nat_list_cmp_total.trans j k l e h.0, below_all j k ls e h.1)

-- what is below all of them is none of them
none_of : (q : List ℕ) (ls : List (List ℕ)) → Below q ls → is_among ls q ≡ false
none_of q [] h = refl
none_of q (l ∷ ls) h = (λ i. is_eq (h.0 i) || none_of q ls h.1 i)

-- ---- a key more

put_below : (j k : List ℕ) (ls : List (List ℕ)) → bytes_cmp j k ≡ Less → Below j ls → Below j (put_key k ls)
put_below j k [] e h = (e, tt)
put_below j k (l ∷ ls) e h = by (bytes_cmp k l) (put_below j k ls e h.1)
  where
    by : (o : Ordering) → Below j (put_key k ls) → Below j (put_at o k l ls (put_key k ls))
    by Less later = (e, h)
    by Equal later = h
    by Greater later = (h.0, later)

put_rises : (k : List ℕ) (ls : List (List ℕ)) → Rises ls → Rises (put_key k ls)
put_rises k [] h = (tt, tt)
put_rises k (l ∷ ls) h = by (bytes_cmp k l) refl (put_rises k ls h.1)
  where
    by : (o : Ordering) → bytes_cmp k l ≡ o → Rises (put_key k ls) → Rises (put_at o k l ls (put_key k ls))
    by Less e later = ((e, below_all k l ls e h.0), h)
    by Equal e later = h
    by Greater e later = (put_below l k ls (below_over k l e) h.0, later)

or_swap : (a b c : Bool) → (a || (b || c)) ≡ (b || (a || c))
or_swap true true c = refl
or_swap true false c = refl
or_swap false b c = refl

or_twice : (a c : Bool) → (a || c) ≡ (a || (a || c))
or_twice true c = refl
or_twice false c = refl

put_among : (k : List ℕ) (ls : List (List ℕ)) (q : List ℕ) → is_among (put_key k ls) q ≡ (is_eq (bytes_cmp q k) || is_among ls q)
put_among k [] q = refl
put_among k (l ∷ ls) q = by (bytes_cmp k l) refl (put_among k ls q)
  where
    by : (o : Ordering) → bytes_cmp k l ≡ o → is_among (put_key k ls) q ≡ (is_eq (bytes_cmp q k) || is_among ls q)
        → is_among (put_at o k l ls (put_key k ls)) q ≡ (is_eq (bytes_cmp q k) || is_among (l ∷ ls) q)
    by Less e later = refl
    by Equal e later =
        or_twice (is_eq (bytes_cmp q l)) (is_among ls q)
        ∙ ap (λ (m : List ℕ). is_eq (bytes_cmp q m) || (is_eq (bytes_cmp q l) || is_among ls q)) (sym (exact_bytes k l e))
    by Greater e later =
        ap (λ (b : Bool). is_eq (bytes_cmp q l) || b) later ∙ or_swap (is_eq (bytes_cmp q l)) (is_eq (bytes_cmp q k)) (is_among ls q)

set_rises : (ks : List (List ℕ)) → Rises (ascending_set ks)
set_rises [] = tt
set_rises (k ∷ ks) = put_rises k (ascending_set ks) (set_rises ks)

pub set_sorted : (ks : List (List ℕ)) → IsStrictlySortedBy bytes_cmp (ascending_set ks)
set_sorted ks = sorted (ascending_set ks) (set_rises ks)

pub set_among : (ks : List (List ℕ)) (q : List ℕ) → is_among (ascending_set ks) q ≡ is_among ks q
set_among [] q = refl
set_among (k ∷ ks) q = put_among k (ascending_set ks) q ∙ ap (λ (b : Bool). is_eq (bytes_cmp q k) || b) (set_among ks q)

-- ---- there is one such list

abbrev SameMembers : List (List ℕ) → List (List ℕ) → Type 0
SameMembers ks ls = (q : List ℕ) → is_among ks q ≡ is_among ls q

-- the first keys are equal
first_same : (k l : List ℕ) (ks ls : List (List ℕ)) → Below k ks → Below l ls → SameMembers (k ∷ ks) (l ∷ ls) → k ≡ l
first_same k l ks ls hk hl same = by (bytes_cmp k l) refl
  where
    by : (o : Ordering) → bytes_cmp k l ≡ o → k ≡ l
    by Less e =
        let there : is_among (k ∷ ks) k ≡ true = ap (λ (b : Bool). b || is_among ks k) (same_itself k) in
        let absent : is_among (l ∷ ls) k ≡ false = none_of k (l ∷ ls) (e, below_all k l ls e hl) in
        absurd (let f : true ≡ false = sym there ∙ same k ∙ absent in cc)
    by Equal e = exact_bytes k l e
    by Greater e =
        let there : is_among (l ∷ ls) l ≡ true = ap (λ (b : Bool). b || is_among ls l) (same_itself l) in
        let absent : is_among (k ∷ ks) l ≡ false = none_of l (k ∷ ks) (below_over k l e, below_all l k ks (below_over k l e) hk) in
        absurd (let f : true ≡ false = sym there ∙ sym (same l) ∙ absent in cc)

-- and so are the members behind them
rest_same : (k : List ℕ) (ks ls : List (List ℕ)) → Below k ks → Below k ls → SameMembers (k ∷ ks) (k ∷ ls) → SameMembers ks ls
rest_same k ks ls hk hl same q = by (bytes_cmp q k) refl (same q)
  where
    by : (o : Ordering) → bytes_cmp q k ≡ o → (is_eq o || is_among ks q) ≡ (is_eq o || is_among ls q) → is_among ks q ≡ is_among ls q
    by Less e h = h
    by Equal e h = ap (is_among ks) (exact_bytes q k e) ∙ none_of k ks hk ∙ sym (none_of k ls hl) ∙ sym (ap (is_among ls) (exact_bytes q k e))
    by Greater e h = h

one_rising : (ks ls : List (List ℕ)) → Rises ks → Rises ls → SameMembers ks ls → ks ≡ ls
one_rising [] [] hk hl same = refl
one_rising [] (l ∷ ls) hk hl same = absurd (let f : false ≡ true = same l ∙ ap (λ (b : Bool). b || is_among ls l) (same_itself l) in cc)
one_rising (k ∷ ks) [] hk hl same = absurd (let f : false ≡ true = sym (same k) ∙ ap (λ (b : Bool). b || is_among ks k) (same_itself k) in cc)
one_rising (k ∷ ks) (l ∷ ls) hk hl same =
    let first : k ≡ l = first_same k l ks ls hk.0 hl.0 same in
    let behind : Below k ls = subst (λ (m : List ℕ). Below m ls) (sym first) hl.0 in
    let members : SameMembers (k ∷ ks) (k ∷ ls) = subst (λ (m : List ℕ). SameMembers (k ∷ ks) (m ∷ ls)) (sym first) same in
    λ i. first i ∷ one_rising ks ls hk.1 hl.1 (rest_same k ks ls hk.0 behind members) i

pub one_list : (ks ls : List (List ℕ)) → IsStrictlySortedBy bytes_cmp ks → IsStrictlySortedBy bytes_cmp ls → SameMembers ks ls → ks ≡ ls
one_list ks ls hk hl same = one_rising ks ls (rises ks hk) (rises ls hl) same

-- ---- by sorting

or_same : (a b c : Bool) → b ≡ a → (a || c) ≡ (a || (b || c))
or_same a b c e = or_twice a c ∙ ap (λ (d : Bool). a || (d || c)) (sym e)

module _ {X : Type 0} (p : X → Bool) (same : X → X → Bool) (alike : (x y : X) → same x y ≡ true → p x ≡ p y) where
  any_from : (k : X) (xs : List X) → list_any p (dedup_from same k xs) ≡ (p k || list_any p xs)
  any_from k [] = refl
  any_from k (x ∷ xs) = by (same x k) refl (any_from k xs) (any_from x xs)
    where
      by : (b : Bool) → same x k ≡ b → list_any p (dedup_from same k xs) ≡ (p k || list_any p xs) → list_any p (dedup_from same x xs) ≡ (p x || list_any p xs)
          → list_any p (cond b (dedup_from same k xs) (k ∷ dedup_from same x xs)) ≡ (p k || (p x || list_any p xs))
      by true e stays continues = stays ∙ or_same (p k) (p x) (list_any p xs) (alike x k e)
      by false e stays continues = ap (λ (b : Bool). p k || b) continues

  any_dedup : (xs : List X) → list_any p (dedup same xs) ≡ list_any p xs
  any_dedup [] = refl
  any_dedup (x ∷ xs) = any_from x xs

abbrev pub order_of : Vec ℕ → Vec ℕ → Ordering
order_of v w = bytes_cmp v.items w.items

below_texts : (v : Vec ℕ) (ws : List (Vec ℕ)) → AllByRecursion (λ w. order_of v w ≡ Less) ws → Below v.items (texts_of ws)
below_texts v [] h = tt
below_texts v (w ∷ ws) h = (h.0, below_texts v ws h.1)

texts_rise : (vs : List (Vec ℕ)) → IsStrictlySortedBy order_of vs → Rises (texts_of vs)
texts_rise [] h = tt
texts_rise (v ∷ vs) h = (below_texts v vs (sorted_head order_of v vs h), texts_rise vs (sorted_tail order_of v vs h))

pub among_texts : (vs : List (Vec ℕ)) (q : List ℕ) → is_among (texts_of vs) q ≡ list_any (λ v. is_eq (bytes_cmp q v.items)) vs
among_texts [] q = refl
among_texts (v ∷ vs) q = ap (λ (b : Bool). is_eq (bytes_cmp q v.items) || b) (among_texts vs q)

same_bytes : (q : List ℕ) (v w : Vec ℕ) → pointwise nat_eq v.items w.items ≡ true → is_eq (bytes_cmp q v.items) ≡ is_eq (bytes_cmp q w.items)
same_bytes q v w e = ap (λ (k : List ℕ). is_eq (bytes_cmp q k)) (same_text v.items w.items (sym e))

-- what a sort and the removal of repeated ones leave is the set
pub sorted_set : (olds moved : List (Vec ℕ)) → IsPermutation olds moved → IsSorted order_of moved
    → texts_of (dedup (λ v w. pointwise nat_eq v.items w.items) moved) ≡ ascending_set (texts_of olds)
sorted_set olds moved permuted in_order =
    let E : Vec ℕ → Vec ℕ → Bool = λ v w. pointwise nat_eq v.items w.items in
    let strictly : IsStrictlySortedBy order_of (dedup E moved) =
    IsStrictlySortedBy-dedup (on_texts (λ v. v.items)) (λ v w. texts_ties v.items w.items) moved in_order in
    one_rising (texts_of (dedup E moved)) (ascending_set (texts_of olds)) (texts_rise (dedup E moved) strictly) (set_rises (texts_of olds)) (λ q.
    among_texts (dedup E moved) q ∙ any_dedup (λ v. is_eq (bytes_cmp q v.items)) E (same_bytes q) moved
    ∙ sym (list_any-IsPermutation (λ v. is_eq (bytes_cmp q v.items)) olds moved permuted) ∙ sym (among_texts olds q) ∙ sym (set_among (texts_of olds) q))

vectors_below : (v : Vec ℕ) (ws : List (Vec ℕ)) → Below v.items (texts_of ws) → AllByRecursion (λ w. order_of v w ≡ Less) ws
vectors_below v [] h = tt
vectors_below v (w ∷ ws) h = (h.0, vectors_below v ws h.1)

pub vectors_sorted : (vs : List (Vec ℕ)) → IsAscending (texts_of vs) → IsStrictlySortedBy order_of vs
unfolding IsStrictlySortedBy
vectors_sorted [] h = tt
vectors_sorted (v ∷ vs) h = (vectors_below v vs h.0, vectors_sorted vs h.1)
