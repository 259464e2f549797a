-- Just the pages of a file are marked, all of them.
use Rattle.std.proofs.Common.{◌≡◌, ◌≤◌, ◌+◌, ℕ, zero, suc, Bool, true, false, List, [], ◌∷◌, ◌++◌, ap, sym, arith}
use Rattle.std.specs.Prelude.{not}
use Rattle.freelist.specs.FreeList.{room_for, times_in}
use Rattle.freelist.specs.ListReading.{AreAllBelow, TellsAll, free_in, has_unmarked}
use Rattle.freelist.proofs.Marking.{times_in-append}

none_left : (seen : List Bool) → has_unmarked seen ≡ false → (n : ℕ) → free_in seen n ≡ 0
none_left [] is n = omega arith
none_left (true ∷ seen) is zero = omega arith
none_left (true ∷ seen) is (suc n) = none_left seen is n
none_left (false ∷ seen) is n = absurd cc

some_left : (seen : List Bool) → has_unmarked seen ≡ true → ((n : ℕ) → free_in seen n ≡ 0) → ⊥
some_left [] is none = cc
some_left (true ∷ seen) is none = some_left seen is (λ n. none (suc n))
some_left (false ∷ seen) is none = omega (arith, none zero)

-- These were marked one after the other, from no marks on.
pub record AreMarked (page_count : ℕ) (pages : List ℕ) (seen : List Bool) : Type 0 where
  pub marks : (n : ℕ) → times_in n pages + free_in seen n ≡ room_for page_count n

pub starts : (page_count : ℕ) (seen : List Bool) → ((n : ℕ) → free_in seen n ≡ room_for page_count n) → AreMarked page_count [] seen
starts page_count seen none = record { marks = λ n. omega (arith, none n) }

pub more_marked : (page_count : ℕ) (pages more those : List ℕ) (seen slice new : List Bool) → AreMarked page_count pages seen → slice ≡ seen → more ≡ those
    → ((n : ℕ) → times_in n more + free_in new n ≡ free_in slice n) → AreMarked page_count (pages ++ those) new
more_marked page_count pages more those seen slice new are same is step = record {
  marks = λ n.
      omega (
        arith,
        are.marks n,
        step n,
        ap (λ (s : List Bool). free_in s n) same,
        ap (times_in n) is,
        times_in-append n pages those,
      );
}

-- the next ones can't be marked
pub cut_short : (page_count : ℕ) (pages more those rest : List ℕ) (seen slice : List Bool) → AreMarked page_count pages seen → slice ≡ seen → more ≡ those
    → (((n : ℕ) → times_in n more ≤ free_in slice n) → ⊥) → AreAllBelow page_count (pages ++ (those ++ rest)) → ⊥
cut_short page_count pages more those rest seen slice are same is none all =
    none
    (λ n. omega (
      arith,
      are.marks n,
      all n,
      ap (λ (s : List Bool). free_in s n) same,
      ap (times_in n) is,
      times_in-append n pages (those ++ rest),
      times_in-append n those rest,
    ))

pub regrouped : (page_count : ℕ) (xs ys zs : List ℕ) → AreAllBelow page_count (xs ++ (ys ++ zs)) → AreAllBelow page_count ((xs ++ ys) ++ (zs ++ []))
regrouped page_count xs ys zs all n =
    omega (
      arith,
      all n,
      times_in-append n (xs ++ ys) (zs ++ []),
      times_in-append n xs ys,
      times_in-append n zs [],
      times_in-append n xs (ys ++ zs),
      times_in-append n ys zs,
    )

pub tells : (page_count : ℕ) (xs ys zs : List ℕ) (seen : List Bool) (left : Bool) → AreMarked page_count ((xs ++ ys) ++ zs) seen → left ≡ has_unmarked seen
    → TellsAll page_count (xs ++ (ys ++ zs)) (not left)
tells page_count xs ys zs seen true are is = λ all.
    some_left seen (sym is)
    (λ n. omega (
      arith,
      are.marks n,
      all n,
      times_in-append n (xs ++ ys) zs,
      times_in-append n xs ys,
      times_in-append n xs (ys ++ zs),
      times_in-append n ys zs,
    ))
tells page_count xs ys zs seen false are is = λ n.
    omega (
      arith,
      are.marks n,
      none_left seen (sym is) n,
      times_in-append n (xs ++ ys) zs,
      times_in-append n xs ys,
      times_in-append n xs (ys ++ zs),
      times_in-append n ys zs,
    )
