-- A list that is sorted and keeps the order of what ties is the one that inserting makes.
use Rattle.std.proofs.Common.{◌≡◌, ℕ, zero, suc, ◌+◌, ◌<◌, ◌≤◌, Bool, true, false, List, [], ◌∷◌, length, get_or, map, refl, sym, ap, subst, ◌∙◌, arith}
use Rattle.std.specs.Prelude.{not, ◌&&◌, cond}
use Rattle.std.specs.List.{filter, AllByRecursion}
use Rattle.std.specs.List.Sorted.{IsSortedBy, IsSorted, ties, IsStable}
use Rattle.std.specs.Cmp.{IsStrictWeakOrder, IsTotalOrder}
use Rattle.std.specs.declared.cmp.Ordering.{Ordering}
use Rattle.std.specs.declared.cmp.Ordering.TheVariants.{Less, Equal, Greater}
use Rattle.std.specs.Ordering.{is_lt, ordering_reverse, on}
use Rattle.std.proofs.lemmas.List.Sorted.{sorted_far}
use Rattle.std.proofs.lemmas.List.MinMax.{ranks_by}
use Rattle.sort.specs.Sort.{put_before, insert_in_order, sorted}
use Rattle.sort.specs.SortLaws.{All-insert}

first_false : (a b : Bool) → (not a && not b) ≡ true → a ≡ false
first_false true b e = absurd cc
first_false false b e = refl

second_false : (a b : Bool) → (not a && not b) ≡ true → b ≡ false
second_false true b e = absurd cc
second_false false true e = absurd cc
second_false false false e = refl

-- ---- two lists in which none is below an earlier one

module _ {X : Type 0} (lt : X → X → Bool) where
  -- none is below an earlier one
  abbrev pub Rises : List X → Type 0
  Rises [] = Unit {0}
  Rises (x ∷ xs) = AllByRecursion (λ y. lt y x ≡ false) xs × Rises xs

  none_below : (x : X) (xs : List X) → ((k : ℕ) → k < length xs → lt (get_or xs k x) x ≡ false) → AllByRecursion (λ y. lt y x ≡ false) xs
  none_below x [] h = tt
  none_below x (y ∷ ys) h = (h 0 (omega arith), none_below x ys (λ k within. h (suc k) (omega arith)))

  pub Rises-far : (xs : List X) → ((i j : ℕ) (d : X) → i ≤ j → j < length xs → lt (get_or xs j d) (get_or xs i d) ≡ false) → Rises xs
  Rises-far [] far = tt
  Rises-far (x ∷ xs) far = (
    none_below x xs (λ k within. far 0 (suc k) x (omega arith) (omega arith)),
    Rises-far xs (λ i j d le within. far (suc i) (suc j) d (omega arith) (omega arith)),
  )

  next_above : (xs : List X) → Rises xs → (k : ℕ) (d : X) → suc k < length xs → lt (get_or xs (suc k) d) (get_or xs k d) ≡ false
  next_above [] h k d within = absurd (omega arith)
  next_above (x ∷ []) h k d within = absurd (omega arith)
  next_above (x ∷ y ∷ ys) h zero d within = h.0.0
  next_above (x ∷ y ∷ ys) h (suc k) d within = next_above (y ∷ ys) h.1 k d (omega arith)

  pub Rises-sorted_by : (xs : List X) → Rises xs → IsSortedBy lt xs
  Rises-sorted_by xs h k d from within =
      let next : suc k ≡ k + 1 = omega arith in
      ap (λ (j : ℕ). lt (get_or xs j d) (get_or xs k d)) (sym next) ∙ next_above xs h k d (omega arith)

  member : (p : X → Bool) (Q : X → Type 0) (xs rest : List X) (y : X) → filter p xs ≡ y ∷ rest → AllByRecursion Q xs → Q y
  member p Q [] rest y e h = absurd cc
  member p Q (x ∷ xs) rest y e h = by (p x) e (λ f. member p Q xs rest y f h.1)
    where
      by : (b : Bool) → cond b (x ∷ filter p xs) (filter p xs) ≡ y ∷ rest → (filter p xs ≡ y ∷ rest → Q y) → Q y
      by true e later = let same : x ≡ y = cc in subst Q same h.0
      by false e later = later e

  without_first : (y z : X) (ys zs : List X) (a b : Bool) → a ≡ b → cond a (y ∷ ys) ys ≡ cond b (z ∷ zs) zs → ys ≡ zs
  without_first y z ys zs true true p e = cc
  without_first y z ys zs true false p e = absurd cc
  without_first y z ys zs false true p e = absurd cc
  without_first y z ys zs false false p e = e

  module _ (o : IsStrictWeakOrder lt) where
    irreflexive : (x : X) → lt x x ≡ false
    irreflexive x = by (lt x x) (o.one_way x x)
      where
        by : (b : Bool) → (b ≡ true → b ≡ false) → b ≡ false
        by true h = h refl
        by false h = refl

    ties_itself : (x : X) → ties lt x x ≡ true
    ties_itself x = λ i. not (irreflexive x i) && not (irreflexive x i)

    begins : (y : X) (ys : List X) → filter (ties lt y) (y ∷ ys) ≡ y ∷ filter (ties lt y) ys
    begins y ys = ap (λ (b : Bool). cond b (y ∷ filter (ties lt y) ys) (filter (ties lt y) ys)) (ties_itself y)

    -- what rises is told by the order of what ties
    pub one_rising : (ys zs : List X) → Rises ys → Rises zs → ((x : X) → filter (ties lt x) ys ≡ filter (ties lt x) zs) → ys ≡ zs
    one_rising [] [] r s e = refl
    one_rising [] (z ∷ zs) r s e = let none : [] ≡ z ∷ filter (ties lt z) zs = e z ∙ begins z zs in absurd cc
    one_rising (y ∷ ys) [] r s e = let none : [] ≡ y ∷ filter (ties lt y) ys = sym (e y) ∙ begins y ys in absurd cc
    one_rising (y ∷ ys) (z ∷ zs) r s e =
        let here : filter (ties lt y) (z ∷ zs) ≡ y ∷ filter (ties lt y) ys = sym (e y) ∙ begins y ys in
        let there : filter (ties lt z) (y ∷ ys) ≡ z ∷ filter (ties lt z) zs = e z ∙ begins z zs in
        let above : lt y z ≡ false = member (ties lt y) (λ w. lt w z ≡ false) (z ∷ zs) (filter (ties lt y) ys) y here (irreflexive z, s.0) in
        let below : lt z y ≡ false = member (ties lt z) (λ w. lt w y ≡ false) (y ∷ ys) (filter (ties lt z) zs) z there (irreflexive y, r.0) in
        let tied : ties lt y z ≡ true = λ i. not (above i) && not (below i) in
        let first : y ∷ filter (ties lt y) ys ≡ z ∷ filter (ties lt y) zs =
        sym here ∙ ap (λ (b : Bool). cond b (z ∷ filter (ties lt y) zs) (filter (ties lt y) zs)) tied in
        let same : y ≡ z = cc in
        let rest : ys ≡ zs =
        one_rising ys zs r.1 s.1
        (λ x. without_first y z (filter (ties lt x) ys) (filter (ties lt x) zs) (ties lt x y) (ties lt x z) (ap (ties lt x) same) (e x)) in
        λ i. same i ∷ rest i

-- ---- what inserting makes

module _ {A : Type 0} (cmp : A → A → Ordering) where
  module _ (total : IsTotalOrder cmp) where
    abbrev pub below : A → A → Bool
    below x y = is_lt (cmp x y)

    pub weak : IsStrictWeakOrder below
    weak = ranks_by total (λ x. x)

    pub not_above : (x y : A) (c : Ordering) → cmp x y ≡ c → below y x ≡ is_lt (ordering_reverse c)
    not_above x y c e = ap is_lt (total.antisymm y x ∙ ap ordering_reverse e)

    none_below_first : (x y : A) → below y x ≡ false → (ys : List A) → AllByRecursion (λ w. below w y ≡ false) ys → AllByRecursion (λ w. below w x ≡ false) ys
    none_below_first x y e [] h = tt
    none_below_first x y e (w ∷ ws) h = (weak.chain w y x h.0 e, none_below_first x y e ws h.1)

    Rises-insert : (x : A) (ys : List A) → Rises below ys → Rises below (insert_in_order cmp x ys)
    Rises-insert x [] h = (tt, tt)
    Rises-insert x (y ∷ ys) h = by (cmp x y) refl (Rises-insert x ys h.1)
      where
        first : below y x ≡ false → Rises below (x ∷ y ∷ ys)
        first e = ((e, none_below_first x y e ys h.0), h)

        by : (c : Ordering) → cmp x y ≡ c → Rises below (insert_in_order cmp x ys) → Rises below (put_before c x y (insert_in_order cmp x ys) ys)
        by Less e later = first (not_above x y Less e)
        by Equal e later = first (not_above x y Equal e)
        by Greater e later = (All-insert cmp (λ w. below w y ≡ false) x ys (ap is_lt e) h.0, later)

    pub Rises-sorted : (xs : List A) → Rises below (sorted cmp xs)
    Rises-sorted [] = tt
    Rises-sorted (x ∷ xs) = Rises-insert x (sorted cmp xs) (Rises-sorted xs)

    -- what ties with one value ties with all that does
    apart : (w x y : A) → cmp x y ≡ Greater → ties below w x ≡ true → ties below w y ≡ true → ⊥
    apart w x y e a b =
        let less : below y x ≡ true = not_above x y Greater e in
        let no_less : below y x ≡ false = weak.chain y w x (second_false (below w y) (below y w) b) (first_false (below w x) (below x w) a) in
        absurd cc

    passed : (x y : A) (inserted rest : List A) (a b : Bool) → (a ≡ true → b ≡ true → ⊥) → inserted ≡ cond a (x ∷ rest) rest
        → cond b (y ∷ inserted) inserted ≡ cond a (x ∷ cond b (y ∷ rest) rest) (cond b (y ∷ rest) rest)
    passed x y inserted rest true true n e = absurd (n refl refl)
    passed x y inserted rest true false n e = e
    passed x y inserted rest false true n e = ap (λ (zs : List A). y ∷ zs) e
    passed x y inserted rest false false n e = e

    filter-insert : (w x : A) (ys : List A) → filter (ties below w) (insert_in_order cmp x ys) ≡ filter (ties below w) (x ∷ ys)
    filter-insert w x [] = refl
    filter-insert w x (y ∷ ys) = by (cmp x y) refl (filter-insert w x ys)
      where
        by : (c : Ordering) → cmp x y ≡ c → filter (ties below w) (insert_in_order cmp x ys) ≡ filter (ties below w) (x ∷ ys)
            → filter (ties below w) (put_before c x y (insert_in_order cmp x ys) ys) ≡ filter (ties below w) (x ∷ y ∷ ys)
        by Less e later = refl
        by Equal e later = refl
        by Greater e later =
            passed x y (filter (ties below w) (insert_in_order cmp x ys)) (filter (ties below w) ys) (ties below w x) (ties below w y) (apart w x y e) later

    pub filter-sorted : (w : A) (xs : List A) → filter (ties below w) (sorted cmp xs) ≡ filter (ties below w) xs
    filter-sorted w [] = refl
    filter-sorted w (x ∷ xs) = filter-insert w x (sorted cmp xs) ∙ ap (λ (ys : List A). cond (ties below w x) (x ∷ ys) ys) (filter-sorted w xs)

    pub sorted_once : (xs ys : List A) → IsSorted cmp ys → IsStable cmp xs ys → ys ≡ sorted cmp xs
    sorted_once xs ys up stable =
        one_rising below weak ys (sorted cmp xs) (Rises-far below ys (sorted_far below weak ys up)) (Rises-sorted xs) (λ w. stable w ∙ sym (filter-sorted w xs))

    pub sorted_rising : (xs : List A) → IsSorted cmp (sorted cmp xs)
    sorted_rising xs = Rises-sorted_by below (sorted cmp xs) (Rises-sorted xs)

    pub sorted_stable : (xs : List A) → IsStable cmp xs (sorted cmp xs)
    sorted_stable xs = λ w. filter-sorted w xs

-- ---- the same order of what stands for the elements

module _ {A B : Type 0} (f : A → B) (cmp : B → B → Ordering) where
  put_before-map : (c : Ordering) (x y : A) (inserted ys : List A) → map f (put_before c x y inserted ys) ≡ put_before c (f x) (f y) (map f inserted) (map f ys)
  put_before-map Less x y inserted ys = refl
  put_before-map Equal x y inserted ys = refl
  put_before-map Greater x y inserted ys = refl

  insert-map : (x : A) (ys : List A) → map f (insert_in_order (on f cmp) x ys) ≡ insert_in_order cmp (f x) (map f ys)
  insert-map x [] = refl
  insert-map x (y ∷ ys) =
      put_before-map (cmp (f x) (f y)) x y (insert_in_order (on f cmp) x ys) ys
      ∙ ap (λ (zs : List B). put_before (cmp (f x) (f y)) (f x) (f y) zs (map f ys)) (insert-map x ys)

  pub sorted-map : (xs : List A) → map f (sorted (on f cmp) xs) ≡ sorted cmp (map f xs)
  sorted-map [] = refl
  sorted-map (x ∷ xs) = insert-map x (sorted (on f cmp) xs) ∙ ap (insert_in_order cmp (f x)) (sorted-map xs)
