-- Marks of the pages that were reached.
use Rattle.std.proofs.Common.{◌≡◌, ◌≢◌, ℕ, zero, suc, ◌+◌, ◌<◌, ◌≤◌, inl, inr, Bool, true, false, List, [], ◌∷◌, ◌++◌, length, get_or, refl, sym, ◌∙◌, ap}
use Rattle.std.proofs.Common.{arith}
use Rattle.std.specs.Prelude.{◌==◌, if◌then◌else◌, slice_set}
use Rattle.std.proofs.lemmas.Bool.{cases_eq}
use Rattle.std.proofs.lemmas.Bool.Decides.{nat_tests}
use Rattle.std.proofs.lemmas.List.{get_or-set_same, get_or-set_other}
use Rattle.std.proofs.Common.{replicate}
use Rattle.std.proofs.lemmas.List.{length-replicate}
use Rattle.tree_model.specs.Keys.{times}
use Rattle.tree_model.specs.Reach.{AreOnce}
use Rattle.roots.specs.declared.reachable_pages.Reached.{Reached}
use Rattle.roots.specs.Walk.{IsMarked, pages_so_far}

pub times_append : (n : ℕ) (xs ys : List ℕ) → times n (xs ++ ys) ≡ times n xs + times n ys
times_append n [] ys = omega arith
times_append n (x ∷ xs) ys = omega (arith, times_append n xs ys)

abbrev one_if : Bool → ℕ
one_if b = if b then 1 else 0

times_same : (n page : ℕ) → n ≡ page → times n (page ∷ []) ≡ 1
times_same n page is = let test : (n == page) ≡ true = grind (arith, nat_tests, is) in omega (arith, ap one_if test)

times_other : (n page : ℕ) → n ≢ page → times n (page ∷ []) ≡ 0
times_other n page ne = let test : (n == page) ≡ false = grind (arith, nat_tests, ne) in omega (arith, ap one_if test)

pub marks_more : (pages pages' : List ℕ) (seen : List Bool) (page : ℕ) → pages' ≡ pages ++ page ∷ [] → page < length seen → get_or seen page false ≡ false
    → ((n : ℕ) → times n pages ≡ (if get_or seen n false then 1 else 0)) → (n : ℕ)
    → times n pages' ≡ (if get_or (slice_set seen page true) n false then 1 else 0)
marks_more pages pages' seen page is within fresh marks n =
    let counts : times n pages' ≡ times n pages + times n (page ∷ []) = ap (times n) is ∙ times_append n pages (page ∷ []) in
    elim (cases_eq n page) [
      | inl same ↦
          let now : get_or (slice_set seen page true) n false ≡ true =
          ap (λ (k : ℕ). get_or (slice_set seen page true) k false) same ∙ get_or-set_same seen page true false within in
          let before : get_or seen n false ≡ false = ap (λ (k : ℕ). get_or seen k false) same ∙ fresh in
          omega (arith, counts, times_same n page same, marks n, ap one_if now, ap one_if before)
      | inr ne ↦
          let now : get_or (slice_set seen page true) n false ≡ get_or seen n false = get_or-set_other seen page n true false ne in
          omega (arith, counts, times_other n page ne, marks n, ap one_if now)
    ]

never : (k n : ℕ) → get_or (replicate k false) n false ≡ false
never zero n = refl
never (suc k) zero = refl
never (suc k) (suc n) = never k n

-- at first no page is marked
pub none_marked : (limit : ℕ) (reached : Reached) → reached.pages.items ≡ [] → reached.seen.items ≡ replicate limit false → IsMarked limit reached
none_marked limit reached none blank = record {
  count = ap length blank ∙ length-replicate limit false;
  marks = λ n. ap (times n) none ∙ sym (ap (λ (l : List Bool). one_if (get_or l n false)) blank ∙ ap one_if (never limit n));
}

at_most : (b : Bool) (n : ℕ) → n ≡ one_if b → n ≤ 1
at_most true n is = omega (arith, is)
at_most false n is = omega (arith, is)

-- and whatever is marked was reached once
pub marked_once : (limit : ℕ) (reached : Reached) → IsMarked limit reached → AreOnce (pages_so_far reached)
marked_once limit reached marked n = at_most (get_or reached.seen.items n false) (times n (pages_so_far reached)) (marked.marks n)
