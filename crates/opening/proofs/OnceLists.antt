-- Lists in which nothing stands twice: one that is within another is no longer than it, and where it is as long it has all of it.
use Rattle.std.proofs.Common.{◌≡◌, ℕ, suc, ◌≤◌, Bool, true, false, List, [], ◌∷◌, ◌++◌, length, map, inl, inr, refl, sym, ap, subst, ◌∙◌, arith, length-append}
use Rattle.std.specs.List.{AllByRecursion, AllPairs, flat_map}
use Rattle.std.specs.List.Sorted.{IsStrictlySortedBy}
use Rattle.std.specs.declared.cmp.Ordering.TheVariants.{Less}
use Rattle.value_order.specs.Order.{bytes_cmp}
use Rattle.tree_model.specs.Keys.{Each, Entry, IsUnder, Rises, keep_if}
use Rattle.tree_model.proofs.KeyLemmas.{not_under_itself}
use Rattle.entry_model.specs.StateEntries.{entry_keys}
use Rattle.entry_model.proofs.KeyOfDocument.{among_middle}
use Rattle.entry_model.proofs.MemberLemmas.{Among, among_append, among_flat, among_map, first_of}
use Rattle.entry_model.proofs.PlaceLemmas.{name_itself}

abbrev pub AreOnce : {X : Type 0} → List X → Type 0
AreOnce [] = Unit {0}
AreOnce (x ∷ xs) = (Among x xs → ⊥) × AreOnce xs

-- ---- within one another

-- a list has one at this place
record IsAround {X : Type 0} (x : X) (ys : List X) : Type 0 where
  front : List X
  back : List X
  split : ys ≡ front ++ x ∷ back

around : {X : Type 0} (x : X) (ys : List X) → Among x ys → IsAround x ys
around x [] h = absurd h
around x (y ∷ ys) (inl e) = record { front = []; back = ys; split = ap (λ z. z ∷ ys) (sym e) }
around x (y ∷ ys) (inr h) = let r = around x ys h in record { front = y ∷ r.front; back = r.back; split = ap (λ zs. y ∷ zs) r.split }

rest_within : {X : Type 0} (x : X) (xs front back : List X) → (Among x xs → ⊥) → ((z : X) → Among z xs → Among z (front ++ x ∷ back)) → (z : X) → Among z xs
    → Among z (front ++ back)
rest_within x xs front back once h z there = elim (among_middle z x front back (h z there)) [
  | inl e ↦ absurd (once (subst (λ w. Among w xs) e there))
  | inr g ↦ g
]

pub once_fits : {X : Type 0} (xs ys : List X) → AreOnce xs → ((z : X) → Among z xs → Among z ys) → length xs ≤ length ys
once_fits [] ys once h = omega arith
once_fits {X} (x ∷ xs) ys once h =
    let r = around x ys (h x (inl refl)) in
    let within : (z : X) → Among z xs → Among z (r.front ++ x ∷ r.back) = λ z g. subst (Among z) r.split (h z (inr g)) in
    let fits : length xs ≤ length (r.front ++ r.back) = once_fits xs (r.front ++ r.back) once.1 (rest_within x xs r.front r.back once.0 within) in
    omega (arith, fits, ap length r.split, length-append r.front (x ∷ r.back), length-append r.front r.back)

pub all_within : {X : Type 0} (xs ys : List X) → AreOnce xs → ((z : X) → Among z xs → Among z ys) → length ys ≤ length xs → (z : X) → Among z ys → Among z xs
all_within [] [] once h long z there = there
all_within [] (y ∷ ys) once h long z there = absurd (omega (arith, long))
all_within {X} (x ∷ xs) ys once h long z there =
    let r = around x ys (h x (inl refl)) in
    let within : (w : X) → Among w xs → Among w (r.front ++ x ∷ r.back) = λ w g. subst (Among w) r.split (h w (inr g)) in
    let short : length (r.front ++ r.back) ≤ length xs =
    omega (arith, long, ap length r.split, length-append r.front (x ∷ r.back), length-append r.front r.back) in
    elim (among_middle z x r.front r.back (subst (Among z) r.split there)) [
      | inl e ↦ inl e
      | inr g ↦ inr (all_within xs (r.front ++ r.back) once.1 (rest_within x xs r.front r.back once.0 within) short z g)
    ]

-- ---- lists made of others

pub once_append : {X : Type 0} (xs ys : List X) → AreOnce xs → AreOnce ys → ((z : X) → Among z xs → Among z ys → ⊥) → AreOnce (xs ++ ys)
once_append [] ys h g apart = g
once_append (x ∷ xs) ys h g apart = (
  (λ k. elim (among_append x xs ys k) [ inl p ↦ h.0 p | inr q ↦ apart x (inl refl) q ]),
  once_append xs ys h.1 g (λ z p q. apart z (inr p) q),
)

pub once_map : {X Y : Type 0} (f : X → Y) (xs : List X) → AreOnce xs → ((x y : X) → Among x xs → Among y xs → f x ≡ f y → x ≡ y) → AreOnce (map f xs)
once_map f [] h same = tt
once_map f (x ∷ xs) h same = (
  (λ k. let m = among_map f (f x) xs k in h.0 (subst (λ y. Among y xs) (sym (same x m.0 (inl refl) (inr m.1) m.2)) m.1)),
  once_map f xs h.1 (λ y z p q. same y z (inr p) (inr q)),
)

-- what the one gives has nothing of what the other gives
abbrev pub GiveApart : {X Y : Type 0} → (X → List Y) → X → X → Type 0
GiveApart {Y = Y} f x y = (z : Y) → Among z (f x) → Among z (f y) → ⊥

pub once_flat : {X Y : Type 0} (R : X → X → Type 0) (f : X → List Y) (xs : List X) → ((x : X) → Among x xs → AreOnce (f x)) → AllPairs R xs
    → ((x y : X) → Among x xs → Among y xs → R x y → GiveApart f x y) → AreOnce (flat_map f xs)
once_flat R f [] h pairs apart = tt
once_flat R f (x ∷ xs) h pairs apart =
    once_append (f x) (flat_map f xs) (h x (inl refl))
    (once_flat R f xs (λ y p. h y (inr p)) (λ i j d lt below. pairs (suc i) (suc j) d (omega (arith, lt)) (omega (arith, below)))
    (λ y z p q. apart y z (inr p) (inr q)))
    (λ z p q. let y = among_flat f z xs q in apart x y.0 (inl refl) (inr y.1) (first_of R x xs y.0 pairs y.1) z p y.2)

-- keys that ascend
below_each : (k : List ℕ) (ks : List (List ℕ)) (l : List ℕ) → AllByRecursion (λ y. bytes_cmp k y ≡ Less) ks → Among l ks → bytes_cmp k l ≡ Less
below_each k [] l h there = absurd there
below_each k (m ∷ ks) l h (inl e) = subst (λ (n : List ℕ). bytes_cmp k n ≡ Less) (sym e) h.0
below_each k (m ∷ ks) l h (inr there) = below_each k ks l h.1 there

pub sorted_once : (ks : List (List ℕ)) → IsStrictlySortedBy bytes_cmp ks → AreOnce ks
unfolding IsStrictlySortedBy
sorted_once [] h = tt
sorted_once (k ∷ ks) h = ((λ there. name_itself k (below_each k ks k h.0 there)), sorted_once ks h.1)

-- ---- entries

pub each_under : (P : List ℕ → Type 0) (xs : List Entry) (x : Entry) → Each P (entry_keys xs) → Among x xs → P x.key
each_under P [] x h there = absurd there
each_under P (y ∷ ys) x h (inl e) = subst (λ (z : Entry). P z.key) (sym e) h.0
each_under P (y ∷ ys) x h (inr there) = each_under P ys x h.1 there

pub rises_once : (xs : List Entry) → Rises (entry_keys xs) → AreOnce xs
rises_once [] h = tt
rises_once (x ∷ xs) h = ((λ there. not_under_itself x.key (each_under (λ k. IsUnder x.key k) xs x h.0 there)), rises_once xs h.1)

-- ---- those that pass a test

abbrev pub only : {X : Type 0} → (X → Bool) → List X → List X
only p [] = []
only p (x ∷ xs) = keep_if (p x) x (only p xs)

pub only_append : {X : Type 0} (p : X → Bool) (xs ys : List X) → only p (xs ++ ys) ≡ only p xs ++ only p ys
only_append p [] ys = refl
only_append p (x ∷ xs) ys =
    elim (p x) as
    (λ b. keep_if b x (only p (xs ++ ys)) ≡ keep_if b x (only p xs)
    ++ only p ys) [ true ↦ ap (λ zs. x ∷ zs) (only_append p xs ys) | false ↦ only_append p xs ys ]

pub only_there : {X : Type 0} (p : X → Bool) (xs : List X) (x : X) → Among x xs → p x ≡ true → Among x (only p xs)
only_there p [] x h e = absurd h
only_there {X} p (y ∷ ys) x h e = by (p y) refl h (λ g. only_there p ys x g e)
  where
    by : (b : Bool) → p y ≡ b → Among x (y ∷ ys) → (Among x ys → Among x (only p ys)) → Among x (keep_if b y (only p ys))
    by true f (inl g) later = inl g
    by true f (inr g) later = inr (later g)
    by false f (inl g) later = absurd (let never : true ≡ false = sym e ∙ ap p g ∙ f in cc)
    by false f (inr g) later = later g

pub only_told : {X : Type 0} (p : X → Bool) (xs : List X) (x : X) → Among x (only p xs) → Among x xs × (p x ≡ true)
only_told p [] x h = absurd h
only_told {X} p (y ∷ ys) x h = by (p y) refl h (only_told p ys x)
  where
    by : (b : Bool) → p y ≡ b → Among x (keep_if b y (only p ys)) → (Among x (only p ys) → Among x ys × (p x ≡ true)) → Among x (y ∷ ys) × (p x ≡ true)
    by true f (inl g) later = (inl g, ap p g ∙ f)
    by true f (inr g) later = let r = later g in (inr r.0, r.1)
    by false f g later = let r = later g in (inr r.0, r.1)

pub once_only : {X : Type 0} (p : X → Bool) (xs : List X) → AreOnce xs → AreOnce (only p xs)
once_only p [] h = tt
once_only p (x ∷ xs) h = by (p x) (once_only p xs h.1)
  where
    by : (b : Bool) → AreOnce (only p xs) → AreOnce (keep_if b x (only p xs))
    by true later = ((λ there. h.0 (only_told p xs x there).0), later)
    by false later = later
