-- Pages that were made and written.
use Rattle.std.proofs.Common.{◌≡◌, ◌≢◌, ℕ, zero, suc, ◌+◌, ◌*◌, ◌^◌, ◌≤◌, ◌<◌, inl, inr, Bool, true, false, List, [], ◌∷◌, ◌++◌, length, take, get_or, refl}
use Rattle.std.proofs.Common.{sym, ◌∙◌, ap, subst, arith}
use Rattle.std.specs.Prelude.{◌-◌, ◌&&◌, ◌==◌, nat_lt, min, if◌then◌else◌, Some, slice_get, Result, Ok, Err, OnOk}
use Rattle.std.specs.List.{AllByRecursion}
use Rattle.std.proofs.lemmas.Bool.{cases_eq}
use Rattle.std.proofs.lemmas.Bool.Decides.{nat_tests}
use Rattle.std.proofs.lemmas.List.{take_more}
use Rattle.page.specs.History.{History, Sector, KeepsWord, MayHold, now}
use Rattle.page.specs.Crash.{ExtendsHistory, LeavesOnly, IsImageOutside}
use Rattle.page.proofs.Moments.{leaves_further}
use Rattle.page.specs.Format.{PageModel, page_bytes, model_in}
use Rattle.page.specs.Page.{IsSectorOf, page_at}
use Rattle.page.specs.PageLaws.{IsPageModel}
use Rattle.page.specs.declared.page_fault.PageFault.{PageFault}
use Rattle.page.specs.declared.page_fault.PageFault.TheVariants as faults
use Rattle.page.proofs.PageSteps.{bytes_from_same}
use Rattle.page.proofs.PagesBack.{reads_back}
use Rattle.tree_model.specs.Keys.{times}
use Rattle.roots.specs.Image.{model_at, IsOnPages, IsKept}
use Rattle.roots.specs.Turn.{numbers_of, LieBehind, made_or, end_behind, AreWritten}
use Rattle.roots.specs.declared.root.Root.{Root}
use Rattle.roots.proofs.ImageLemmas.{model_same}

-- ---- pages in order

behind_at : (last : ℕ) (made : List PageModel) (i : ℕ) (d : PageModel) → LieBehind last made → i < length made → last < (get_or made i d).page
behind_at last [] i d lie lt = absurd (omega arith)
behind_at last (m ∷ ms) zero d lie lt = lie.0
behind_at last (m ∷ ms) (suc i) d lie lt = omega (arith, lie.0, behind_at m.page ms i d lie.1 (omega arith))

before_at : (last : ℕ) (made : List PageModel) (i : ℕ) (d : PageModel) → LieBehind last made → i < length made
    → AllByRecursion (λ (m : PageModel). m.page < (get_or made i d).page) (take i made)
before_at last [] i d lie lt = absurd (omega arith)
before_at last (m ∷ ms) zero d lie lt = tt
before_at last (m ∷ ms) (suc i) d lie lt = (behind_at m.page ms i d lie.1 (omega arith), before_at m.page ms i d lie.1 (omega arith))

on_pages_get : (made : List PageModel) (i k : ℕ) (d : PageModel) → i < length made → IsSectorOf (get_or made i d).page k → IsOnPages (numbers_of made) k
on_pages_get [] i k d lt here = absurd (omega arith)
on_pages_get (m ∷ ms) zero k d lt here = inl here
on_pages_get (m ∷ ms) (suc i) k d lt here = inr (on_pages_get ms i k d (omega arith) here)

pub on_pages_at : (made : List PageModel) (i k : ℕ) (x : PageModel) → x ≡ get_or made i x → i < length made → IsSectorOf x.page k
    → IsOnPages (numbers_of made) k
on_pages_at made i k x is lt here = on_pages_get made i k x lt (subst (λ (m : PageModel). IsSectorOf m.page k) is here)

pub end_grows : (made : List PageModel) (last end : ℕ) → end ≡ last + 1 → LieBehind last made → end ≤ end_behind end made
end_grows [] last end is lie = omega arith
end_grows (m ∷ ms) last end is lie = let up : m.page + 1 ≤ end_behind (m.page + 1) ms = end_grows ms m.page (m.page + 1) refl lie.1 in omega (arith, lie.0, up)

-- they lie below their end,
pub inside_end : (made : List PageModel) (last end : ℕ) → LieBehind last made → AllByRecursion (λ (m : PageModel). m.page < end_behind end made) made
inside_end [] last end lie = tt
inside_end (m ∷ ms) last end lie =
    let up : m.page + 1 ≤ end_behind (m.page + 1) ms = end_grows ms m.page (m.page + 1) refl lie.1 in
    (omega (arith, up), inside_end ms m.page (m.page + 1) lie.1)

-- which is in reach.
pub end_most : (most : ℕ) (made : List PageModel) (end : ℕ) → end ≤ most → AllByRecursion (λ (m : PageModel). m.page < most) made → end_behind end made ≤ most
end_most most [] end le inside = le
end_most most (m ∷ ms) end le inside = end_most most ms (m.page + 1) (omega (arith, inside.0)) inside.1

-- ---- pages apart

on_page : (pages : List ℕ) (page k : ℕ) → IsOnPages pages k → IsSectorOf page k → 0 < times page pages
on_page [] page k extends here = absurd extends
on_page (p ∷ pages) page k (inl (low, high)) (from, to) =
    let same : page ≡ p = omega (arith, low, high, from, to) in
    let test : (page == p) ≡ true = grind (arith, nat_tests, same) in
    let one : ℕ = 1 in
    let none : ℕ = 0 in
    let counts : (if page == p then one else none) ≡ 1 = ap (λ (b : Bool). if b then one else none) test in
    omega (arith, counts)
on_page (p ∷ pages) page k (inr extends) here = omega (arith, on_page pages page k extends here)

above_all : (made : List PageModel) (last k : ℕ) → LieBehind last made → IsOnPages (numbers_of made) k → 8 ≤ k
above_all [] last k lie extends = absurd extends
above_all (m ∷ ms) last k lie (inl (low, high)) = omega (arith, lie.0, low)
above_all (m ∷ ms) last k lie (inr extends) = above_all ms m.page k lie.1 extends

off_live : (live : List ℕ) (made : List PageModel) (k : ℕ) → AllByRecursion (λ (m : PageModel). times m.page live ≡ 0) made → IsOnPages live k
    → IsOnPages (numbers_of made) k → ⊥
off_live live [] k free extends at = at
off_live live (m ∷ ms) k free extends (inl here) = omega (arith, free.0, on_page live m.page k extends here)
off_live live (m ∷ ms) k free extends (inr at) = off_live live ms k free.1 extends at

-- what the root reaches isn't written
pub apart : (live : List ℕ) (made : List PageModel) (k : ℕ) → LieBehind 0 made → AllByRecursion (λ (m : PageModel). times m.page live ≡ 0) made → IsKept live k
    → IsOnPages (numbers_of made) k → ⊥
apart live made k lie free (inl small) extends = omega (arith, small, above_all made 0 k lie extends)
apart live made k lie free (inr at) extends = off_live live made k free at extends

-- ---- pages written

all_more : {X : Type 0} (P : X → Type 0) (xs : List X) (x : X) → AllByRecursion P xs → P x → AllByRecursion P (xs ++ x ∷ [])
all_more P [] x all here = (here, tt)
all_more P (y ∷ ys) x all here = (all.0, all_more P ys x all.1 here)

still_written : (a b : ℕ → List ℕ) (page : ℕ) (made : List PageModel) → ((k : ℕ) → (IsSectorOf page k → ⊥) → b k ≡ a k)
    → AllByRecursion (λ (m : PageModel). m.page < page) made → AreWritten a made → AreWritten b made
still_written a b page [] others below written = tt
still_written a b page (m ∷ ms) others below written = (
  bytes_from_same a b (8 * m.page) 8 (λ k le lt. others k (λ here. omega (arith, below.0, le, lt, here.0))) ∙ written.0,
  still_written a b page ms others below.1 written.1,
)

-- one more
pub written_step : (a b : ℕ → List ℕ) (made : List PageModel) (i : ℕ) (x : PageModel) → x ≡ get_or made i x → LieBehind 0 made → i < length made
    → ((k : ℕ) → (IsSectorOf x.page k → ⊥) → b k ≡ a k)
    → AreWritten a (take i made) → page_at b x.page ≡ page_bytes x → AreWritten b (take (i + 1) made)
written_step a b made i x is lie lt others before here =
    let same : get_or made i x ≡ x = sym is in
    let below : AllByRecursion (λ (m : PageModel). m.page < x.page) (take i made) =
    subst (λ (y : PageModel). AllByRecursion (λ (m : PageModel). m.page < y.page) (take i made)) same (before_at 0 made i x lie lt) in
    subst (AreWritten b) (sym (take_more made i x lt ∙ ap (λ (y : PageModel). take i made ++ y ∷ []) same))
    (all_more (λ (m : PageModel). page_at b m.page ≡ page_bytes m) (take i made) x (still_written a b x.page (take i made) others below before) here)

-- a root is no page
pub written_apart : (a b : ℕ → List ℕ) (last : ℕ) (made : List PageModel) → ((k : ℕ) → 2 ≤ k → b k ≡ a k) → LieBehind last made → AreWritten a made
    → AreWritten b made
written_apart a b last [] others lie written = tt
written_apart a b last (m ∷ ms) others lie written =
    (bytes_from_same a b (8 * m.page) 8 (λ k le lt. others k (omega (arith, lie.0, le))) ∙ written.0, written_apart a b m.page ms others lie.1 written.1)

pub ok_anyway : {X E : Type 0} (result : Result X E) (P : Type 0) → P → OnOk result P
ok_anyway (Ok x) P p = p
ok_anyway (Err e) P p = tt

-- ---- what is read then

abbrev Found : Type 0
Found = Result PageModel PageFault

made_case : (made : List PageModel) (n : ℕ) (x other : Result PageModel PageFault) → AllByRecursion (λ (m : PageModel). m.page ≡ n → x ≡ Ok m) made
    → (AllByRecursion (λ (m : PageModel). m.page ≢ n) made → x ≡ other) → x ≡ made_or made n other
made_case [] n x other here none = none tt
made_case (m ∷ ms) n x other here none = elim (cases_eq m.page n) [
  | inl is ↦
      let test : (m.page == n) ≡ true = grind (arith, nat_tests, is) in
      here.0 is ∙ sym (ap (λ (b : Bool). if b then Ok m else made_or ms n other) test)
  | inr ne ↦
      let test : (m.page == n) ≡ false = grind (arith, nat_tests, ne) in
      made_case ms n x other here.1 (λ rest. none (ne, rest)) ∙ sym (ap (λ (b : Bool). if b then Ok m else made_or ms n other) test)
]

read_made : (b : ℕ → List ℕ) (root : Root) (m : PageModel) → 0 < m.page → m.page < root.pages → IsPageModel root.generation m → page_at b m.page ≡ page_bytes m
    → model_at b root m.page ≡ Ok m
read_made b root m some inside model written =
    let low : nat_lt 0 m.page ≡ true = grind (arith, nat_tests, some) in
    let high : nat_lt m.page root.pages ≡ true = grind (arith, nat_tests, inside) in
    (λ i. if low i && high i then model_in m.page root.generation (written i) else Err faults.Number)
    ∙ reads_back root.generation m model

all_read : (b : ℕ → List ℕ) (root : Root) (last n : ℕ) (made : List PageModel) → LieBehind last made → AllByRecursion (λ (m : PageModel). m.page < root.pages)
    made
    → AllByRecursion (IsPageModel root.generation) made → AreWritten b made → AllByRecursion (λ (m : PageModel). m.page ≡ n → model_at b root n ≡ Ok m) made
all_read b root last n [] lie inside models written = tt
all_read b root last n (m ∷ ms) lie inside models written = (
  (λ is. subst (λ (p : ℕ). model_at b root p ≡ Ok m) is (read_made b root m (omega (arith, lie.0)) inside.0 models.0 written.0)),
  all_read b root m.page n ms lie.1 inside.1 models.1 written.1,
)

off_made : (made : List PageModel) (n k : ℕ) → AllByRecursion (λ (m : PageModel). m.page ≢ n) made → IsSectorOf n k → IsOnPages (numbers_of made) k → ⊥
off_made [] n k ne here extends = extends
off_made (m ∷ ms) n k ne (low, high) (inl (from, to)) = ne.0 (omega (arith, low, high, from, to))
off_made (m ∷ ms) n k ne here (inr extends) = off_made ms n k ne.1 here extends

-- Of a file in which they were written they are the pages, and the others are as they were.
pub models_after : (a b : ℕ → List ℕ) (root : Root) (made : List PageModel) → LieBehind 0 made → AllByRecursion (λ (m : PageModel). m.page < root.pages) made
    → AllByRecursion (IsPageModel root.generation) made → AreWritten b made → ((k : ℕ) → (IsOnPages (numbers_of made) k → ⊥) → b k ≡ a k)
    → (n : ℕ) → model_at b root n ≡ made_or made n (model_at a root n)
models_after a b root made lie inside models written others n =
    made_case made n (model_at b root n) (model_at a root n) (all_read b root 0 n made lie inside models written)
    (λ ne. model_same a b root n (λ k here. others k (off_made made n k ne here)))

-- ---- one page more

module _ (start mid new : History) (made : List PageModel) (page : ℕ) (inside : (k : ℕ) → IsSectorOf page k → IsOnPages (numbers_of made) k)
    (continues : ExtendsHistory mid new)
    (before : KeepsWord mid → (k : ℕ) → (IsOnPages (numbers_of made) k → ⊥) → now mid k ≡ now start k)
    (others : KeepsWord new → (k : ℕ) → (IsSectorOf page k → ⊥) → now new k ≡ now mid k) where
  pub others_more : KeepsWord new → (k : ℕ) → (IsOnPages (numbers_of made) k → ⊥) → now new k ≡ now start k
  others_more keeps k outside = others keeps k (λ here. outside (inside k here)) ∙ before (continues.kept keeps) k outside

  pub moments_more : LeavesOnly start mid (IsImageOutside (now start) (IsOnPages (numbers_of made)))
      → LeavesOnly mid new (IsImageOutside (now mid) (IsSectorOf page))
      → LeavesOnly start new (IsImageOutside (now start) (IsOnPages (numbers_of made)))
  moments_more so_far during =
      leaves_further start mid new (IsImageOutside (now start) (IsOnPages (numbers_of made))) continues so_far
      (λ keeps image left k outside. subst (λ (x : Sector). MayHold x (image k)) (before (continues.kept keeps) k outside)
      (during keeps image left k (λ here. outside (inside k here))))

-- ---- the end of pages, by the last of them

pub end_last : (made : List PageModel) (end : ℕ) (x : PageModel) → Some x ≡ slice_get made (length made - 1) → end_behind end made ≡ x.page + 1
end_last [] end x is = absurd cc
end_last (m ∷ []) end x is = let same : x ≡ m = some_same is in ap (λ (s : PageModel). s.page + 1) (sym same)
  where
    some_same : {a b : PageModel} → Some a ≡ Some b → a ≡ b
    some_same h = cc
end_last (m ∷ n ∷ ms) end x is =
    let place : length (m ∷ n ∷ ms) - 1 ≡ suc (length (n ∷ ms) - 1) = omega arith in
    end_last (n ∷ ms) (m.page + 1) x (is ∙ ap (slice_get (m ∷ n ∷ ms)) place)

pub end_saturated : (made : List PageModel) (x : PageModel) (n : ℕ) → Some x ≡ slice_get made (length made - 1) → n ≡ min (x.page + 1) (2 ^ 32 - 1)
    → AllByRecursion (λ (m : PageModel). m.page < 1048576) made → n ≡ end_behind 1 made
end_saturated made x n is at inside = let e : end_behind 1 made ≡ x.page + 1 = end_last made 1 x is in
    omega (arith, at, e, end_most 1048576 made 1 (omega arith) inside)
