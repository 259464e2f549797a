-- Pages are marked, each once.
use Rattle.std.proofs.Common.{◌≡◌, ◌<◌, ◌≤◌, ◌+◌, ℕ, zero, suc, Bool, true, false, List, [], ◌∷◌, ◌++◌, length, ap, ◌∙◌, arith, refl, inl, inr, set}
use Rattle.std.specs.Prelude.{get_or, ◌==◌, if◌then◌else◌}
use Rattle.std.proofs.lemmas.Bool.Decides.{nat_tests}
use Rattle.std.proofs.lemmas.Bool.{cases_eq}
use Rattle.std.proofs.Common.{take, drop}
use Rattle.std.proofs.lemmas.List.{get_or-set_other, get_or-set_same, take_more, take-append-drop}
use Rattle.freelist.specs.FreeList.{times_in}
use Rattle.freelist.specs.ListReading.{free_in, unmarked}

-- a page that isn't marked is one of the file's
pub below : (seen : List Bool) (page : ℕ) → get_or seen page true ≡ false → page < length seen
below [] page h = absurd cc
below (s ∷ seen) zero h = omega arith
below (s ∷ seen) (suc page) h = omega (arith, below seen page h)

free_set : (seen : List Bool) (page n : ℕ) → get_or seen page true ≡ false
    → (if n == page then 1 else 0) + free_in (set seen page true) n ≡ free_in seen n
free_set seen page n h = elim (cases_eq n page) [
  | inl same ↦
      let eq : (n == page) ≡ true = grind (arith, nat_tests) in
      let now : get_or (set seen page true) n true ≡ true =
      ap (λ (k : ℕ). get_or (set seen page true) k true) same ∙ get_or-set_same seen page true true (below seen page h) in
      let was : get_or seen n true ≡ false = ap (λ (k : ℕ). get_or seen k true) same ∙ h in
      rw (eq, now, was) (omega arith)
  | inr other ↦
      let eq : (n == page) ≡ false = grind (arith, nat_tests) in
      let now : get_or (set seen page true) n true ≡ get_or seen n true = get_or-set_other seen page n true true other in
      rw (eq, now) (omega arith)
]

pub marks_one : (seen : List Bool) (page n : ℕ) → get_or seen page true ≡ false
    → times_in n (page ∷ []) + free_in (set seen page true) n ≡ free_in seen n
marks_one seen page n h = omega (arith, free_set seen page n h)

pub one_fewer : (seen : List Bool) (page : ℕ) → get_or seen page true ≡ false → unmarked (set seen page true) < unmarked seen
one_fewer [] page h = absurd cc
one_fewer (s ∷ seen) zero h = rw h (omega arith)
one_fewer (s ∷ seen) (suc page) h = omega (arith, one_fewer seen page h)

-- a page that is marked can't be marked once more
pub stands_there : (seen : List Bool) (page : ℕ) → get_or seen page true ≡ true → ((n : ℕ) → times_in n (page ∷ []) ≤ free_in seen n) → ⊥
stands_there seen page h room =
    let eq : (page == page) ≡ true = grind (arith, nat_tests) in
    let none : free_in seen page ≡ 0 = rw h refl in
    let one : 1 ≤ free_in seen page = rw eq at (room page) in
    omega (arith, one, none)

-- ---- how often a number stands in a list

pub times_in-append : (n : ℕ) (xs ys : List ℕ) → times_in n (xs ++ ys) ≡ times_in n xs + times_in n ys
times_in-append n [] ys = omega arith
times_in-append n (x ∷ xs) ys = omega (arith, times_in-append n xs ys)

pub times_in_more : (n : ℕ) (xs : List ℕ) (i : ℕ) → i < length xs
    → times_in n (take (i + 1) xs) ≡ times_in n (take i xs) + times_in n (get_or xs i 0 ∷ [])
times_in_more n xs i within = ap (times_in n) (take_more xs i 0 within) ∙ times_in-append n (take i xs) (get_or xs i 0 ∷ [])

pub times_in_front : (n i : ℕ) (xs : List ℕ) → times_in n (take i xs) ≤ times_in n xs
times_in_front n i xs = omega (arith, times_in-append n (take i xs) (drop i xs), ap (times_in n) (take-append-drop i xs))

-- the first of these were marked, and the next one was marked before
pub one_stands_there : (xs : List ℕ) (i : ℕ) (old seen : List Bool) → i < length xs
    → ((n : ℕ) → times_in n (take i xs) + free_in seen n ≡ free_in old n)
    → (((n : ℕ) → times_in n (get_or xs i 0 ∷ []) ≤ free_in seen n) → ⊥)
    → ((n : ℕ) → times_in n xs ≤ free_in old n) → ⊥
one_stands_there xs i old seen within so none room =
    none (λ n. omega (arith, so n, room n, times_in_front n (i + 1) xs, times_in_more n xs i within))

pub marks_more : (xs : List ℕ) (i : ℕ) (old seen new : List Bool) → i < length xs
    → ((n : ℕ) → times_in n (take i xs) + free_in seen n ≡ free_in old n)
    → ((n : ℕ) → times_in n (get_or xs i 0 ∷ []) + free_in new n ≡ free_in seen n)
    → (n : ℕ) → times_in n (take (i + 1) xs) + free_in new n ≡ free_in old n
marks_more xs i old seen new within so one n = omega (arith, so n, one n, times_in_more n xs i within)
