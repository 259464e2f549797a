-- Lists in strict order by any total order, and a stable sort of what rises by another one.
use Rattle.std.proofs.Common.{◌≡◌, ℕ, zero, suc, ◌<◌, Bool, true, false, List, [], ◌∷◌, length, take, get_or, ◌⊎◌, inl, inr, refl, sym, ap, ◌∙◌, arith}
use Rattle.std.specs.Prelude.{cond}
use Rattle.std.specs.List.{AllPairs, filter}
use Rattle.std.specs.Cmp.{IsTotalOrder, then_total}
use Rattle.std.specs.Ordering.{ordering_then, ordering_reverse}
use Rattle.std.specs.declared.cmp.Ordering.{Ordering}
use Rattle.std.specs.declared.cmp.Ordering.TheVariants.{Less, Equal, Greater}
use Rattle.std.proofs.lemmas.Cmp.{tied_itself}
use Rattle.sort.specs.Sort.{put_before, insert_in_order, sorted}
use Rattle.entry_model.proofs.MemberLemmas.{Among}

module _ {X : Type 0} (cmp : X → X → Ordering) where
  -- it is below each
  abbrev pub Below : X → List X → Type 0
  Below x [] = Unit {0}
  Below x (y ∷ ys) = (cmp x y ≡ Less) × Below x ys

  abbrev pub Rises : List X → Type 0
  Rises [] = Unit {0}
  Rises (x ∷ xs) = Below x xs × Rises xs

  pub below_each : (x z : X) (ys : List X) → Below x ys → Among z ys → cmp x z ≡ Less
  below_each x z [] h g = absurd g
  below_each x z (y ∷ ys) h (inl e) = ap (cmp x) e ∙ h.0
  below_each x z (y ∷ ys) h (inr g) = below_each x z ys h.1 g

  below_of : (x : X) (ys : List X) → ((k : ℕ) → k < length ys → cmp x (get_or ys k x) ≡ Less) → Below x ys
  below_of x [] h = tt
  below_of x (y ∷ ys) h = (h 0 (omega arith), below_of x ys (λ k within. h (suc k) (omega (arith, within))))

  pub rises_of : (xs : List X) → AllPairs (λ x y. cmp x y ≡ Less) xs → Rises xs
  rises_of [] h = tt
  rises_of (x ∷ xs) h = (
    below_of x xs (λ k within. h 0 (suc k) x (omega arith) (omega (arith, within))),
    rises_of xs (λ i j d lt within. h (suc i) (suc j) d (omega (arith, lt)) (omega (arith, within))),
  )

  below_at : (x : X) (ys : List X) → Below x ys → (k : ℕ) (d : X) → k < length ys → cmp x (get_or ys k d) ≡ Less
  below_at x [] h k d within = absurd (omega (arith, within))
  below_at x (y ∷ ys) h zero d within = h.0
  below_at x (y ∷ ys) h (suc k) d within = below_at x ys h.1 k d (omega (arith, within))

  pub pairs_of : (xs : List X) → Rises xs → AllPairs (λ x y. cmp x y ≡ Less) xs
  pairs_of [] h i j d lt within = absurd (omega (arith, within))
  pairs_of (x ∷ xs) h zero zero d lt within = absurd (omega (arith, lt))
  pairs_of (x ∷ xs) h zero (suc j) d lt within = below_at x xs h.0 j d (omega (arith, within))
  pairs_of (x ∷ xs) h (suc i) zero d lt within = absurd (omega (arith, lt))
  pairs_of (x ∷ xs) h (suc i) (suc j) d lt within = pairs_of xs h.1 i j d (omega (arith, lt)) (omega (arith, within))

  module _ (o : IsTotalOrder cmp) where
    over_below : (x y : X) → cmp x y ≡ Less → cmp y x ≡ Greater
    over_below x y e = o.antisymm y x ∙ ap ordering_reverse e

    pub below_over : (x y : X) → cmp x y ≡ Greater → cmp y x ≡ Less
    below_over x y e = o.antisymm y x ∙ ap ordering_reverse e

    pub not_both : (x y : X) → cmp x y ≡ Less → cmp y x ≡ Less → ⊥
    not_both x y e f = let g = over_below x y e in cc

    not_itself : (x y : X) → x ≡ y → cmp x y ≡ Less → ⊥
    not_itself x y same e = let g : cmp x x ≡ Equal = tied_itself o x in let f = ap (cmp x) same in cc

    pub below_all : (x y : X) (zs : List X) → cmp x y ≡ Less → Below y zs → Below x zs
    below_all x y [] e h = tt
    below_all x y (z ∷ zs) e h = (o.trans x y z e h.0, below_all x y zs e h.1)

    one_head : (x y : X) (xs ys : List X) → Below x xs → Below y ys → (x ≡ y) ⊎ Among x ys → (y ≡ x) ⊎ Among y xs → x ≡ y
    one_head x y xs ys hx hy (inl e) g = e
    one_head x y xs ys hx hy (inr f) (inl e) = sym e
    one_head x y xs ys hx hy (inr f) (inr g) =
        absurd (not_both x y (below_each x y xs hx g) (below_each y x ys hy f))

    behind : (x y z : X) (xs ys : List X) → x ≡ y → Below x xs → Among z xs → (z ≡ y) ⊎ Among z ys → Among z ys
    behind x y z xs ys same hx g (inr f) = f
    behind x y z xs ys same hx g (inl e) = absurd (not_itself x z (same ∙ sym e) (below_each x z xs hx g))

    -- what rises is told by its members
    pub one_rising : (xs ys : List X) → Rises xs → Rises ys
        → ((z : X) → Among z xs → Among z ys) → ((z : X) → Among z ys → Among z xs) → xs ≡ ys
    one_rising [] [] hx hy to from = refl
    one_rising [] (y ∷ ys) hx hy to from = absurd (from y (inl refl))
    one_rising (x ∷ xs) [] hx hy to from = absurd (to x (inl refl))
    one_rising (x ∷ xs) (y ∷ ys) hx hy to from =
        let same : x ≡ y = one_head x y xs ys hx.0 hy.0 (to x (inl refl)) (from y (inl refl)) in
        let rest : xs ≡ ys = one_rising xs ys hx.1 hy.1
        (λ z g. behind x y z xs ys same hx.0 g (to z (inr g)))
        (λ z g. behind y x z ys xs (sym same) hy.0 g (from z (inr g))) in
        λ i. same i ∷ rest i

    first_head : (x y : X) (xs ys : List X) → Below x xs → Below y ys → (x ≡ y) ⊎ Among x ys → ((y ≡ x) ⊎ Among y xs) ⊎ (cmp x y ≡ Less) → x ≡ y
    first_head x y xs ys hx hy g (inl h) = one_head x y xs ys hx hy g h
    first_head x y xs ys hx hy (inl e) (inr less) = e
    first_head x y xs ys hx hy (inr f) (inr less) = absurd (not_both x y less (below_each y x ys hy f))

    behind_first : (x y z w : X) (xs ys : List X) → x ≡ y → Below y ys → Among z ys → ((z ≡ x) ⊎ Among z xs) ⊎ (cmp w z ≡ Less) → Among z xs ⊎ (cmp w z ≡ Less)
    behind_first x y z w xs ys same hy g (inl (inl e)) = absurd (not_itself y z (sym same ∙ sym e) (below_each y z ys hy g))
    behind_first x y z w xs ys same hy g (inl (inr f)) = inl f
    behind_first x y z w xs ys same hy g (inr less) = inr less

    -- what rises among others of which each is above it, or among it, is their front
    pub front_rising : (xs ys : List X) → Rises xs → Rises ys
        → ((z : X) → Among z xs → Among z ys) → ((z w : X) → Among z ys → Among w xs → Among z xs ⊎ (cmp w z ≡ Less)) → xs ≡ take (length xs) ys
    front_rising [] ys hx hy to above = refl
    front_rising (x ∷ xs) [] hx hy to above = absurd (to x (inl refl))
    front_rising (x ∷ xs) (y ∷ ys) hx hy to above =
        let same : x ≡ y = first_head x y xs ys hx.0 hy.0 (to x (inl refl)) (above y x (inl refl) (inl refl)) in
        let rest : xs ≡ take (length xs) ys = front_rising xs ys hx.1 hy.1
        (λ z g. behind x y z xs ys same hx.0 g (to z (inr g)))
        (λ z w g h. behind_first x y z w xs ys same hy.0 g (above z w (inr g) (inr h))) in
        λ i. same i ∷ rest i

-- ---- a stable sort of what rises by another order

module _ {X : Type 0} (cmp : X → X → Ordering) where
  among_insert : (z x : X) (ys : List X) → Among z (insert_in_order cmp x ys) → (z ≡ x) ⊎ Among z ys
  among_insert z x [] g = g
  among_insert z x (y ∷ ys) g = by (cmp x y) (among_insert z x ys) g
    where
      by : (c : Ordering) → (Among z (insert_in_order cmp x ys) → (z ≡ x) ⊎ Among z ys) → Among z (put_before c x y (insert_in_order cmp x ys) ys)
          → (z ≡ x) ⊎ Among z (y ∷ ys)
      by Less later h = h
      by Equal later h = h
      by Greater later (inl e) = inr (inl e)
      by Greater later (inr h) = elim (later h) [ inl e ↦ inl e | inr k ↦ inr (inr k) ]

  insert_among : (z x : X) (ys : List X) → (z ≡ x) ⊎ Among z ys → Among z (insert_in_order cmp x ys)
  insert_among z x [] g = g
  insert_among z x (y ∷ ys) g = by (cmp x y) (insert_among z x ys) g
    where
      by : (c : Ordering) → ((z ≡ x) ⊎ Among z ys → Among z (insert_in_order cmp x ys)) → (z ≡ x) ⊎ Among z (y ∷ ys)
          → Among z (put_before c x y (insert_in_order cmp x ys) ys)
      by Less later h = h
      by Equal later h = h
      by Greater later (inl e) = inr (later (inl e))
      by Greater later (inr (inl e)) = inl e
      by Greater later (inr (inr h)) = inr (later (inr h))

  pub among_sorted : (z : X) (xs : List X) → Among z (sorted cmp xs) → Among z xs
  among_sorted z [] g = g
  among_sorted z (x ∷ xs) g = elim (among_insert z x (sorted cmp xs) g) [ inl e ↦ inl e | inr h ↦ inr (among_sorted z xs h) ]

  pub sorted_among : (z : X) (xs : List X) → Among z xs → Among z (sorted cmp xs)
  sorted_among z [] g = g
  sorted_among z (x ∷ xs) (inl e) = insert_among z x (sorted cmp xs) (inl e)
  sorted_among z (x ∷ xs) (inr g) = insert_among z x (sorted cmp xs) (inr (sorted_among z xs g))

  below_insert : (by : X → X → Ordering) (y x : X) (ys : List X) → by y x ≡ Less → Below by y ys → Below by y (insert_in_order cmp x ys)
  below_insert by y x [] e h = (e, tt)
  below_insert by y x (z ∷ zs) e h = at (cmp x z) (below_insert by y x zs e h.1)
    where
      at : (c : Ordering) → Below by y (insert_in_order cmp x zs) → Below by y (put_before c x z (insert_in_order cmp x zs) zs)
      at Less later = (e, h)
      at Equal later = (e, h)
      at Greater later = (h.0, later)

  below_sorted : (by : X → X → Ordering) (y : X) (xs : List X) → Below by y xs → Below by y (sorted cmp xs)
  below_sorted by y [] h = tt
  below_sorted by y (x ∷ xs) h = below_insert by y x (sorted cmp xs) h.0 (below_sorted by y xs h.1)

abbrev pub both : {X : Type 0} → (X → X → Ordering) → (X → X → Ordering) → X → X → Ordering
both cmp next x y = ordering_then (cmp x y) (next x y)

module _ {X : Type 0} (cmp next : X → X → Ordering) (c : IsTotalOrder cmp) (n : IsTotalOrder next) where
  total : IsTotalOrder (both cmp next)
  total = then_total c n

  insert_rises : (x : X) (ys : List X) → Below next x ys → Rises (both cmp next) ys → Rises (both cmp next) (insert_in_order cmp x ys)
  insert_rises x [] h r = (tt, tt)
  insert_rises x (y ∷ ys) h r = at (cmp x y) refl (insert_rises x ys h.1 r.1)
    where
      first : (o : Ordering) → cmp x y ≡ o → ordering_then o (next x y) ≡ Less → both cmp next x y ≡ Less
      first o e f = ap (λ (p : Ordering). ordering_then p (next x y)) e ∙ f

      in_front : both cmp next x y ≡ Less → Rises (both cmp next) (x ∷ y ∷ ys)
      in_front e = ((e, below_all (both cmp next) total x y ys e r.0), r)

      at : (o : Ordering) → cmp x y ≡ o → Rises (both cmp next) (insert_in_order cmp x ys)
          → Rises (both cmp next) (put_before o x y (insert_in_order cmp x ys) ys)
      at Less e later = in_front (first Less e refl)
      at Equal e later = in_front (first Equal e h.0)
      at Greater e later =
          let back : both cmp next y x ≡ Less = ap (λ (p : Ordering). ordering_then p (next y x)) (below_over cmp c x y e) in
          (below_insert cmp (both cmp next) y x ys back r.0, later)

  -- ties stand in the order of the other
  pub sorted_rises : (xs : List X) → Rises next xs → Rises (both cmp next) (sorted cmp xs)
  sorted_rises [] h = tt
  sorted_rises (x ∷ xs) h = insert_rises x (sorted cmp xs) (below_sorted cmp next x xs h.0) (sorted_rises xs h.1)

-- ---- those that pass a test

module _ {X : Type 0} (p : X → Bool) where
  pub filter_among : (z : X) (xs : List X) → Among z (filter p xs) → Among z xs × (p z ≡ true)
  filter_among z [] g = absurd g
  filter_among z (x ∷ xs) g = by (p x) refl (filter_among z xs) g
    where
      by : (b : Bool) → p x ≡ b → (Among z (filter p xs) → Among z xs × (p z ≡ true)) → Among z (cond b (x ∷ filter p xs) (filter p xs))
          → Among z (x ∷ xs) × (p z ≡ true)
      by true so later (inl e) = (inl e, ap p e ∙ so)
      by true so later (inr h) = (inr (later h).0, (later h).1)
      by false so later h = (inr (later h).0, (later h).1)

  pub among_filter : (z : X) (xs : List X) → Among z xs → p z ≡ true → Among z (filter p xs)
  among_filter z [] g e = absurd g
  among_filter z (x ∷ xs) g e = by (p x) refl g (λ h. among_filter z xs h e)
    where
      by : (b : Bool) → p x ≡ b → (z ≡ x) ⊎ Among z xs → (Among z xs → Among z (filter p xs)) → Among z (cond b (x ∷ filter p xs) (filter p xs))
      by true so (inl f) later = inl f
      by true so (inr h) later = inr (later h)
      by false so (inl f) later = absurd (let no_more : p z ≡ false = ap p f ∙ so in cc)
      by false so (inr h) later = later h

  below_filter : (cmp : X → X → Ordering) (y : X) (xs : List X) → Below cmp y xs → Below cmp y (filter p xs)
  below_filter cmp y [] h = tt
  below_filter cmp y (x ∷ xs) h = by (p x) (below_filter cmp y xs h.1)
    where
      by : (b : Bool) → Below cmp y (filter p xs) → Below cmp y (cond b (x ∷ filter p xs) (filter p xs))
      by true later = (h.0, later)
      by false later = later

  pub rises_filter : (cmp : X → X → Ordering) (xs : List X) → Rises cmp xs → Rises cmp (filter p xs)
  rises_filter cmp [] h = tt
  rises_filter cmp (x ∷ xs) h = by (p x) (rises_filter cmp xs h.1)
    where
      by : (b : Bool) → Rises cmp (filter p xs) → Rises cmp (cond b (x ∷ filter p xs) (filter p xs))
      by true later = (below_filter cmp x xs h.0, later)
      by false later = later
