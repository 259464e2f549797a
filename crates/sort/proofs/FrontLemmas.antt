-- Of documents in order the first ones are told by the first ones of a part and by all others.
use Rattle.std.proofs.Common.{◌≡◌, ℕ, zero, suc, ◌+◌, ◌≤◌, List, [], ◌∷◌, ◌++◌, length, take, drop, true, false, refl, sym, ap, subst, ◌∙◌, arith}
use Rattle.std.specs.List.{filter, AllByRecursion}
use Rattle.std.specs.Cmp.{IsTotalOrder}
use Rattle.std.specs.List.Sorted.{ties}
use Rattle.std.specs.declared.cmp.Ordering.{Ordering}
use Rattle.std.specs.declared.cmp.Ordering.TheVariants.{Less, Equal, Greater}
use Rattle.std.specs.Ordering.{is_lt}
use Rattle.std.proofs.lemmas.List.{append_assoc, append-nil, take-append-drop}
use Rattle.std.proofs.lemmas.List.Elements.{filter-append}
use Rattle.sort.specs.Sort.{put_before, insert_in_order, sorted}
use Rattle.sort.proofs.StableSortLemmas.{Rises, below, weak, not_above, one_rising, Rises-sorted, filter-sorted}

module _ {X : Type 0} where
  take-front : (n : ℕ) (xs ys : List X) → n ≤ length xs → take n (xs ++ ys) ≡ take n xs
  take-front zero xs ys h = refl
  take-front (suc n) [] ys h = absurd (omega (arith, h))
  take-front (suc n) (x ∷ xs) ys h = ap (λ (zs : List X). x ∷ zs) (take-front n xs ys (omega (arith, h)))

  length-take : (n : ℕ) (xs : List X) (y : X) (ys : List X) → drop n xs ≡ y ∷ ys → length (take n xs) ≡ n
  length-take zero xs y ys e = refl
  length-take (suc n) [] y ys e = absurd cc
  length-take (suc n) (x ∷ xs) y ys e = ap suc (length-take n xs y ys e)

module _ {A : Type 0} (cmp : A → A → Ordering) where
  abbrev onto : List A → List A → List A
  onto [] ys = ys
  onto (x ∷ xs) ys = insert_in_order cmp x (onto xs ys)

  sorted-onto : (xs ys : List A) → sorted cmp (xs ++ ys) ≡ onto xs (sorted cmp ys)
  sorted-onto [] ys = refl
  sorted-onto (x ∷ xs) ys = ap (insert_in_order cmp x) (sorted-onto xs ys)

  length-insert : (x : A) (ys : List A) → length (insert_in_order cmp x ys) ≡ suc (length ys)
  length-insert x [] = refl
  length-insert x (y ∷ ys) = by (cmp x y) (length-insert x ys)
    where
      by : (c : Ordering) → length (insert_in_order cmp x ys) ≡ suc (length ys)
          → length (put_before c x y (insert_in_order cmp x ys) ys) ≡ suc (suc (length ys))
      by Less later = refl
      by Equal later = refl
      by Greater later = ap suc later

  length-onto : (xs ys : List A) → length (onto xs ys) ≡ length xs + length ys
  length-onto [] ys = omega arith
  length-onto (x ∷ xs) ys = omega (arith, length-insert x (onto xs ys), length-onto xs ys)

  module _ (total : IsTotalOrder cmp) where
    -- none stands in front of these that is below the value
    abbrev NotBelow : A → List A → Type 0
    NotBelow x [] = Unit {0}
    NotBelow x (y ∷ ys) = below cmp total y x ≡ false

    Greater-below : (x y : A) → cmp x y ≡ Greater → below cmp total y x ≡ true
    Greater-below x y e = not_above cmp total x y Greater e

    insert-front : (x : A) (xs ys : List A) → NotBelow x ys → insert_in_order cmp x (xs ++ ys) ≡ insert_in_order cmp x xs ++ ys
    insert-front x [] [] h = refl
    insert-front x [] (y ∷ ys) h = by (cmp x y) refl
      where
        by : (c : Ordering) → cmp x y ≡ c → put_before c x y (insert_in_order cmp x ys) ys ≡ x ∷ y ∷ ys
        by Less e = refl
        by Equal e = refl
        by Greater e = let above = Greater-below x y e in absurd cc
    insert-front x (z ∷ zs) ys h = by (cmp x z) (insert-front x zs ys h)
      where
        by : (c : Ordering) → insert_in_order cmp x (zs ++ ys) ≡ insert_in_order cmp x zs ++ ys
            → put_before c x z (insert_in_order cmp x (zs ++ ys)) (zs ++ ys) ≡ put_before c x z (insert_in_order cmp x zs) zs ++ ys
        by Less later = refl
        by Equal later = refl
        by Greater later = ap (λ (vs : List A). z ∷ vs) later

    onto-front : (xs ys zs : List A) → AllByRecursion (λ x. NotBelow x zs) xs → onto xs (ys ++ zs) ≡ onto xs ys ++ zs
    onto-front [] ys zs h = refl
    onto-front (x ∷ xs) ys zs h = ap (insert_in_order cmp x) (onto-front xs ys zs h.1) ∙ insert-front x (onto xs ys) zs h.0

    -- where a value comes to stand in a list
    record IsPut (b : A) (ys : List A) : Type 0 where
      front : List A
      back : List A
      whole : ys ≡ front ++ back
      put : insert_in_order cmp b ys ≡ front ++ b ∷ back
      above : NotBelow b back

    is_put : (b : A) (ys : List A) → IsPut b ys
    is_put b [] = record { front = []; back = []; whole = refl; put = refl; above = tt }
    is_put b (y ∷ ys) = by (cmp b y) refl (is_put b ys)
      where
        first : (c : Ordering) → cmp b y ≡ c → is_lt c ≡ is_lt c → put_before c b y (insert_in_order cmp b ys) ys ≡ b ∷ y ∷ ys → below cmp total y b ≡ false
            → IsPut b (y ∷ ys)
        first c e s p n = record
            { front = []; back = y ∷ ys; whole = refl; put = ap (λ (o : Ordering). put_before o b y (insert_in_order cmp b ys) ys) e ∙ p; above = n }

        by : (c : Ordering) → cmp b y ≡ c → IsPut b ys → IsPut b (y ∷ ys)
        by Less e later = first Less e refl refl (not_above cmp total b y Less e)
        by Equal e later = first Equal e refl refl (not_above cmp total b y Equal e)
        by Greater e later = record {
          front = y ∷ later.front;
          back = later.back;
          whole = ap (λ (vs : List A). y ∷ vs) later.whole;
          put = ap (λ (o : Ordering). put_before o b y (insert_in_order cmp b ys) ys) e ∙ ap (λ (vs : List A). y ∷ vs) later.put;
          above = later.above;
        }

    -- a value that is below none of these
    abbrev IsLast : List A → A → Type 0
    IsLast xs b = AllByRecursion (λ x. below cmp total b x ≡ false) xs

    last-below : (b : A) (xs back : List A) → IsLast xs b → NotBelow b back → AllByRecursion (λ x. NotBelow x back) xs
    last-below b [] back h above = tt
    last-below b (x ∷ xs) [] h above = (tt, last-below b xs [] h.1 tt)
    last-below b (x ∷ xs) (y ∷ ys) h above = ((weak cmp total).chain y b x above h.0, last-below b xs (y ∷ ys) h.1 above)

    first-of-last : (b : A) (xs back : List A) → IsLast xs b → AllByRecursion (λ x. NotBelow x (b ∷ back)) xs
    first-of-last b [] back h = tt
    first-of-last b (x ∷ xs) back h = (h.0, first-of-last b xs back h.1)

    -- the first ones don't change where such a value is left out behind as many
    without-last : (n : ℕ) (xs : List A) (b : A) (zs : List A) → n ≤ length xs → IsLast xs b
        → take n (sorted cmp (xs ++ b ∷ zs)) ≡ take n (sorted cmp (xs ++ zs))
    without-last n xs b zs few last =
        let p = is_put b (sorted cmp zs) in
        let room : n ≤ length (onto xs p.front) = omega (arith, few, length-onto xs p.front) in
        let with_it : sorted cmp (xs ++ b ∷ zs) ≡ onto xs p.front ++ b ∷ p.back =
        sorted-onto xs (b ∷ zs) ∙ ap (onto xs) p.put ∙ onto-front xs p.front (b ∷ p.back) (first-of-last b xs p.back last) in
        let without : sorted cmp (xs ++ zs) ≡ onto xs p.front ++ p.back =
        sorted-onto xs zs ∙ ap (onto xs) p.whole ∙ onto-front xs p.front p.back (last-below b xs p.back last p.above) in
        ap (take n) with_it ∙ take-front n (onto xs p.front) (b ∷ p.back) room ∙ sym (take-front n (onto xs p.front) p.back room) ∙ ap (take n) (sym without)

    without-lasts : (n : ℕ) (xs bs zs : List A) → n ≤ length xs → AllByRecursion (IsLast xs) bs
        → take n (sorted cmp (xs ++ (bs ++ zs))) ≡ take n (sorted cmp (xs ++ zs))
    without-lasts n xs [] zs few h = refl
    without-lasts n xs (b ∷ bs) zs few h = without-last n xs b (bs ++ zs) few h.0 ∙ without-lasts n xs bs zs few h.1

    all-not-below : (x : A) (xs bs : List A) → AllByRecursion (λ y. below cmp total y x ≡ false) (xs ++ bs)
        → AllByRecursion (λ b. below cmp total b x ≡ false) bs
    all-not-below x [] bs h = h
    all-not-below x (y ∷ ys) bs h = all-not-below x ys bs h.1

    lasts-more : (x : A) (xs bs : List A) → AllByRecursion (λ b. below cmp total b x ≡ false) bs → AllByRecursion (IsLast xs) bs
        → AllByRecursion (IsLast (x ∷ xs)) bs
    lasts-more x xs [] h t = tt
    lasts-more x xs (b ∷ bs) h t = ((h.0, t.0), lasts-more x xs bs h.1 t.1)

    none-last : (bs : List A) → AllByRecursion (IsLast []) bs
    none-last [] = tt
    none-last (b ∷ bs) = (tt, none-last bs)

    lasts : (xs bs : List A) → Rises (below cmp total) (xs ++ bs) → AllByRecursion (IsLast xs) bs
    lasts [] bs h = none-last bs
    lasts (x ∷ xs) bs h = lasts-more x xs bs (all-not-below x xs bs h.0) (lasts xs bs h.1)

    -- what is sorted first may come sorted
    sorted-twice : (xs ys : List A) → sorted cmp (sorted cmp xs ++ ys) ≡ sorted cmp (xs ++ ys)
    sorted-twice xs ys =
        one_rising (below cmp total) (weak cmp total) (sorted cmp (sorted cmp xs ++ ys)) (sorted cmp (xs ++ ys)) (Rises-sorted cmp total (sorted cmp xs ++ ys))
        (Rises-sorted cmp total (xs ++ ys)) same
      where
        same : (w : A) → filter (ties (below cmp total) w) (sorted cmp (sorted cmp xs ++ ys)) ≡ filter (ties (below cmp total) w) (sorted cmp (xs ++ ys))
        same w =
            let p = ties (below cmp total) w in
            filter-sorted cmp total w (sorted cmp xs ++ ys) ∙ filter-append p (sorted cmp xs) ys
            ∙ ap (λ (zs : List A). zs ++ filter p ys) (filter-sorted cmp total w xs)
            ∙ sym (filter-append p xs ys) ∙ sym (filter-sorted cmp total w (xs ++ ys))

    pub sorted-front : (n : ℕ) (xs ys : List A) → take n (sorted cmp (take n (sorted cmp xs) ++ ys)) ≡ take n (sorted cmp (xs ++ ys))
    sorted-front n xs ys = at (drop n (sorted cmp xs)) refl ∙ ap (take n) (sorted-twice xs ys)
      where
        front : List A
        front = take n (sorted cmp xs)

        whole : (bs : List A) → drop n (sorted cmp xs) ≡ bs → front ++ bs ≡ sorted cmp xs
        whole bs e = ap (λ (vs : List A). front ++ vs) (sym e) ∙ take-append-drop n (sorted cmp xs)

        at : (bs : List A) → drop n (sorted cmp xs) ≡ bs → take n (sorted cmp (front ++ ys)) ≡ take n (sorted cmp (sorted cmp xs ++ ys))
        at [] e = ap (λ (vs : List A). take n (sorted cmp (vs ++ ys))) (sym (append-nil front) ∙ whole [] e)
        at (b ∷ bs) e =
            let few : n ≤ length front = omega (arith, length-take n (sorted cmp xs) b bs e) in
            let rises : Rises (below cmp total) (front ++ b ∷ bs) = subst (Rises (below cmp total)) (sym (whole (b ∷ bs) e)) (Rises-sorted cmp total xs) in
            sym (without-lasts n front (b ∷ bs) ys few (lasts front (b ∷ bs) rises))
            ∙ ap (λ (vs : List A). take n (sorted cmp vs)) (sym (append_assoc front (b ∷ bs) ys) ∙ ap (λ (vs : List A). vs ++ ys) (whole (b ∷ bs) e))
