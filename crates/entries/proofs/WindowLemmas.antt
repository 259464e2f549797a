-- What lies between two keys of a map.
use Rattle.std.proofs.Common.{◌≡◌, ℕ, ◌+◌, ◌<◌, ◌≤◌, ◌^◌, Bool, true, false, not, ◌&&◌, List, [], ◌∷◌, ◌++◌, Option, Some, ◌⊎◌, inl, inr, refl, sym, ap, ◌∙◌}
use Rattle.std.proofs.Common.{arith}
use Rattle.std.specs.Int.{w32, to_be_bytes}
use Rattle.std.specs.Ordering.{nat_cmp, ordering_then, is_lt}
use Rattle.std.specs.Cmp.{nat_cmp_is}
use Rattle.std.specs.Cmp.Lexicographic.{slice_cmp}
use Rattle.std.specs.declared.cmp.Ordering.{Ordering}
use Rattle.std.specs.declared.cmp.Ordering.TheVariants.{Less, Equal, Greater}
use Rattle.std.proofs.lemmas.Cmp.{nat_cmp_total, tied_itself}
use Rattle.std.proofs.Math.Nat.{mod-eq_of_lt}
use Rattle.std.proofs.lemmas.Bool.{cases_lt}
use Rattle.key_order.proofs.NumberLaws.{SortsAs-bytes}
use Rattle.tree_model.specs.Keys.{Entry, Each, IsUnder, Rises, key_cmp, keep_if, window, is_within}
use Rattle.entry_model.specs.StateEntries.{key_under, entry_keys}
use Rattle.entry_model.proofs.MemberLemmas.{Among}

-- ---- the order of keys under numbers

numbered_cmp : (m n : ℕ) (x y : List ℕ) → m < 2 ^ 32 → n < 2 ^ 32
    → slice_cmp nat_cmp (to_be_bytes w32 m ++ x) (to_be_bytes w32 n ++ y) ≡ ordering_then (nat_cmp m n) (slice_cmp nat_cmp x y)
numbered_cmp m n x y low high =
    let a : m < 256 ^ 4 = omega (arith, low) in
    let b : n < 256 ^ 4 = omega (arith, high) in
    (SortsAs-bytes m n 4).decides x y ∙ (λ i. ordering_then (nat_cmp (mod-eq_of_lt a i) (mod-eq_of_lt b i)) (slice_cmp nat_cmp x y))

pub under_cmp : (m n i j : ℕ) (x y : List ℕ) → m < 2 ^ 32 → n < 2 ^ 32 → i < 2 ^ 32 → j < 2 ^ 32
    → key_cmp (key_under m i x) (key_under n j y) ≡ ordering_then (nat_cmp m n) (ordering_then (nat_cmp i j) (key_cmp x y))
under_cmp m n i j x y a b c d =
    numbered_cmp m n (to_be_bytes w32 i ++ x) (to_be_bytes w32 j ++ y) a b ∙ ap (ordering_then (nat_cmp m n)) (numbered_cmp i j x y c d)

-- the test of a window
abbrev pub is_inside : List ℕ → Option (List ℕ) → List ℕ → Bool
is_inside from to k = not (is_lt (key_cmp k from)) && is_within to k

not_below_none : (text : List ℕ) → is_lt (key_cmp text []) ≡ false
not_below_none [] = refl
not_below_none (b ∷ bs) = refl

-- the test, by how the numbers compare
abbrev window_test : List ℕ → Ordering → Ordering → Ordering → Bool
window_test text o p q = not (is_lt (ordering_then o (ordering_then p (key_cmp text [])))) && is_lt (ordering_then o (ordering_then q (key_cmp text [])))

first_less : (text : List ℕ) (p q : Ordering) → window_test text Less p q ≡ true → ⊥
first_less text p q f = absurd cc

first_greater : (text : List ℕ) (p q : Ordering) → window_test text Greater p q ≡ true → ⊥
first_greater text p q f = absurd cc

second_less : (text : List ℕ) (q : Ordering) → window_test text Equal Less q ≡ true → ⊥
second_less text q f = absurd cc

at_end : (text : List ℕ) → window_test text Equal Greater Equal ≡ true → ⊥
at_end text f = let g : false ≡ true = sym (not_below_none text) ∙ f in cc

past_end : (text : List ℕ) → window_test text Equal Greater Greater ≡ true → ⊥
past_end text f = absurd cc

-- what lies between the first key under two numbers and the first under the next is under these
pub inside_same : (m n i j : ℕ) (text : List ℕ) → m < 2 ^ 32 → n < 2 ^ 32 → i < 2 ^ 32 → j + 1 < 2 ^ 32
    → is_inside (key_under n j []) (Some (key_under n (j + 1) [])) (key_under m i text) ≡ true → (m ≡ n) × (i ≡ j)
inside_same m n i j text a b c d e =
    let low = ap is_lt (under_cmp m n i j text [] a b c (omega (arith, d))) in
    let high = ap is_lt (under_cmp m n i (j + 1) text [] a b c d) in
    by (cases_lt m n) (cases_lt n m) (cases_lt i j) (cases_lt j i) (sym (λ t. not (low t) && high t) ∙ e)
  where
    by : (m < n) ⊎ (n ≤ m) → (n < m) ⊎ (m ≤ n) → (i < j) ⊎ (j ≤ i) → (j < i) ⊎ (i ≤ j)
        → window_test text (nat_cmp m n) (nat_cmp i j) (nat_cmp i (j + 1)) ≡ true → (m ≡ n) × (i ≡ j)
    by (inl less) q r s f =
        absurd (first_less text (nat_cmp i j) (nat_cmp i (j + 1))
        (ap (λ (o : Ordering). window_test text o (nat_cmp i j) (nat_cmp i (j + 1))) (nat_cmp_is m n Less less) ∙ f))
    by (inr p) (inl more) r s f =
        absurd (first_greater text (nat_cmp i j) (nat_cmp i (j + 1))
        (ap (λ (o : Ordering). window_test text o (nat_cmp i j) (nat_cmp i (j + 1))) (nat_cmp_is m n Greater more) ∙ f))
    by (inr p) (inr q) r s f = let same : m ≡ n = omega (arith, p, q) in (same, at same r s)
      where
        at : m ≡ n → (i < j) ⊎ (j ≤ i) → (j < i) ⊎ (i ≤ j) → i ≡ j
        at same (inl less) w =
            absurd (second_less text (nat_cmp i (j + 1))
            ((λ t. window_test text (nat_cmp_is m n Equal same t) (nat_cmp_is i j Less less t) (nat_cmp i (j + 1))) ∙ f))
        at same (inr u) (inr w) = omega (arith, u, w)
        at same (inr u) (inl w) = absurd (over (cases_lt (j + 1) i))
          where
            over : (j + 1 < i) ⊎ (i ≤ j + 1) → ⊥
            over (inl v) =
                past_end text ((λ t. window_test text (nat_cmp_is m n Equal same t) (nat_cmp_is i j Greater w t) (nat_cmp_is i (j + 1) Greater v t)) ∙ f)
            over (inr v) = let next : i ≡ j + 1 = omega (arith, w, v) in
                at_end text ((λ t. window_test text (nat_cmp_is m n Equal same t) (nat_cmp_is i j Greater w t) (nat_cmp_is i (j + 1) Equal next t)) ∙ f)

pub inside_there : (n j : ℕ) (text : List ℕ) → n < 2 ^ 32 → j + 1 < 2 ^ 32
    → is_inside (key_under n j []) (Some (key_under n (j + 1) [])) (key_under n j text) ≡ true
inside_there n j text a b =
    let low : is_lt (key_cmp (key_under n j text) (key_under n j [])) ≡ false =
    ap is_lt (under_cmp n n j j text [] a a (omega (arith, b)) (omega (arith, b))
    ∙ (λ t. ordering_then (tied_itself nat_cmp_total n t) (ordering_then (tied_itself nat_cmp_total j t) (key_cmp text [])))) ∙ not_below_none text in
    let next : j < j + 1 = omega arith in
    let high : is_lt (key_cmp (key_under n j text) (key_under n (j + 1) [])) ≡ true =
    ap is_lt (under_cmp n n j (j + 1) text [] a a (omega (arith, b)) b
    ∙ (λ t. ordering_then (tied_itself nat_cmp_total n t) (ordering_then (sym (nat_cmp_is j (j + 1) Less next) t) (key_cmp text [])))) in
    λ t. not (low t) && high t

-- ---- windows

pub among_window : (from : List ℕ) (to : Option (List ℕ)) (xs : List Entry) (x : Entry) → Among x (window from to xs)
    → Among x xs × (is_inside from to x.key ≡ true)
among_window from to [] x h = absurd h
among_window from to (y ∷ ys) x h = by (is_inside from to y.key) refl h (among_window from to ys x)
  where
    by : (b : Bool) → is_inside from to y.key ≡ b → Among x (keep_if b y (window from to ys))
        → (Among x (window from to ys) → Among x ys × (is_inside from to x.key ≡ true)) → Among x (y ∷ ys) × (is_inside from to x.key ≡ true)
    by true e (inl f) later = (inl f, ap (λ (z : Entry). is_inside from to z.key) f ∙ e)
    by true e (inr g) later = let r = later g in (inr r.0, r.1)
    by false e g later = let r = later g in (inr r.0, r.1)

pub window_among : (from : List ℕ) (to : Option (List ℕ)) (xs : List Entry) (x : Entry) → Among x xs → is_inside from to x.key ≡ true
    → Among x (window from to xs)
window_among from to [] x h e = absurd h
window_among from to (y ∷ ys) x h e = by (is_inside from to y.key) refl h (λ g. window_among from to ys x g e)
  where
    by : (b : Bool) → is_inside from to y.key ≡ b → Among x (y ∷ ys) → (Among x ys → Among x (window from to ys)) → Among x (keep_if b y (window from to ys))
    by true f (inl p) later = inl p
    by true f (inr g) later = inr (later g)
    by false f (inl p) later = absurd (let g : true ≡ false = sym e ∙ ap (λ (z : Entry). is_inside from to z.key) p ∙ f in cc)
    by false f (inr g) later = later g

each_window : (P : List ℕ → Type 0) (from : List ℕ) (to : Option (List ℕ)) (xs : List Entry) → Each P (entry_keys xs) → Each P (entry_keys (window from to xs))
each_window P from to [] h = tt
each_window P from to (y ∷ ys) h = by (is_inside from to y.key) (each_window P from to ys h.1)
  where
    by : (b : Bool) → Each P (entry_keys (window from to ys)) → Each P (entry_keys (keep_if b y (window from to ys)))
    by true later = (h.0, later)
    by false later = later

pub window_rises : (from : List ℕ) (to : Option (List ℕ)) (xs : List Entry) → Rises (entry_keys xs) → Rises (entry_keys (window from to xs))
window_rises from to [] h = tt
window_rises from to (y ∷ ys) h = by (is_inside from to y.key) (window_rises from to ys h.1)
  where
    by : (b : Bool) → Rises (entry_keys (window from to ys)) → Rises (entry_keys (keep_if b y (window from to ys)))
    by true later = (each_window (λ k. IsUnder y.key k) from to ys h.0, later)
    by false later = later
