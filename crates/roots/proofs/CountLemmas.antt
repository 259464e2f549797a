-- The pages that a root reaches are fewer than those of its file, so the counts add up.
use Rattle.std.proofs.Common.{◌≡◌, ◌≢◌, ◌⊎◌, ℕ, ◌+◌, ◌<◌, ◌≤◌, max, Bool, true, false, List, [], ◌∷◌, ◌++◌, append-nil, length, sym, ◌∙◌, ap, subst}
use Rattle.std.proofs.Common.{arith, inl, inr}
use Rattle.std.specs.Prelude.{◌&&◌, ◌==◌, nat_lt, if◌then◌else◌, is_ok, Result, Err, IfOk, MatchResult, Ok}
use Rattle.std.specs.List.{AllByRecursion}
use Rattle.std.proofs.lemmas.Bool.{cases_eq, cases_lt}
use Rattle.std.proofs.lemmas.Bool.Decides.{nat_tests}
use Rattle.page.specs.Format.{PageModel, model_in}
use Rattle.page.specs.History.{History, KeepsWord, now, reads}
use Rattle.page.specs.Page.{page_at}
use Rattle.page.specs.declared.page_fault.PageFault.{PageFault}
use Rattle.page.specs.declared.page_fault.PageFault.TheVariants as page_faults
use Rattle.tree_model.specs.Keys.{Each, Entry, times}
use Rattle.tree_model.specs.Reach.{AreOnce}
use Rattle.tree_model.proofs.CapacityLemmas.{pages_are_few}
use Rattle.tree_model.proofs.OnceLemmas.{map_live}
use Rattle.freelist.specs.FreeList.{Part, first_page, named_by, pages_of, room_for}
use Rattle.freelist.proofs.ListedBooks.{room_is}
use Rattle.freelist.proofs.Marking.{times_in-append}
use Rattle.roots.specs.Counting.{AreCounts, CountsPages, CountsTree}
use Rattle.roots.specs.HeldFile.{HoldsNoFile, Reaches}
use Rattle.roots.specs.Image.{HasList, HoldsMap, reached_by, model_at, store_of}
use Rattle.roots.specs.Listed.{OnlyReads}
use Rattle.roots.specs.declared.counting.PageCounts.{PageCounts}
use Rattle.roots.specs.declared.opening.OpenFault.{OpenFault}
use Rattle.roots.specs.declared.opening.OpenFault.TheVariants as faults
use Rattle.roots.specs.declared.root.Root.{Root}
use Rattle.roots.specs.declared.store.Store.{Store}
use Rattle.roots.proofs.FreeLemmas.{committed_still}
use Rattle.roots.proofs.HeldFileLemmas.{committed_file, names_the_rest, no_parts, times_same}
use Rattle.roots.proofs.ListingLemmas.{all_pages, has_room}

abbrev one_if : Bool → ℕ
one_if b = if b then 1 else 0

-- a number from 1 to below another one
abbrev pub IsInside : ℕ → ℕ → Type 0
IsInside most n = (0 < n) × (n < most)

-- a page of the image is one of the file's behind page 0
pub model_inside : (image : ℕ → List ℕ) (root : Root) (n : ℕ) → is_ok (model_at image root n) ≡ true → IsInside root.pages n
model_inside image root n there = elim (cases_lt 0 n) [
  | inl some ↦ elim (cases_lt n root.pages) [
    | inl below ↦ (some, below)
    | inr past ↦ let test : nat_lt n root.pages ≡ false = grind (arith, nat_tests, past) in
        absurd (none (nat_lt 0 n) (nat_lt n root.pages) (model_in n root.generation (page_at image n)) (inr test) there)
  ]
  | inr zero_is ↦ let test : nat_lt 0 n ≡ false = grind (arith, nat_tests, zero_is) in
      absurd (none (nat_lt 0 n) (nat_lt n root.pages) (model_in n root.generation (page_at image n)) (inl test) there)
]
  where
    none : (a b : Bool) (found : Result PageModel PageFault) → (a ≡ false) ⊎ (b ≡ false) → is_ok (if a && b then found else Err page_faults.Number) ≡ true → ⊥
    none true true found (inl is) there = cc
    none true true found (inr is) there = cc
    none true false found either there = cc
    none false b found either there = cc

has_times : (P : ℕ → Type 0) (n : ℕ) (xs : List ℕ) → Each P xs → 1 ≤ times n xs → P n
has_times P n [] all some = absurd (omega (arith, some))
has_times P n (x ∷ xs) all some = elim (cases_eq n x) [
  | inl is ↦ subst P (sym is) all.0
  | inr ne ↦ let test : (n == x) ≡ false = grind (arith, nat_tests, ne) in has_times P n xs all.1 (omega (arith, some, ap one_if test))
]

each_there : (P : ℕ → Type 0) (xs : List ℕ) → ((n : ℕ) → 1 ≤ times n xs → P n) → Each P xs
each_there P [] there = tt
each_there P (x ∷ xs) there =
    let test : (x == x) ≡ true = grind (arith, nat_tests) in
    (there x (omega (arith, ap one_if test)), each_there P xs (λ n some. there n (omega (arith, some))))

pub room_most : (most n : ℕ) → room_for most n ≤ 1
room_most most n = most_one (nat_lt 0 n && nat_lt n most)
  where
    most_one : (b : Bool) → one_if b ≤ 1
    most_one true = omega arith
    most_one false = omega arith

room_there : (most n : ℕ) → IsInside most n → room_for most n ≡ 1
room_there most n inside = room_is most n inside.0 inside.1

-- what a root reaches are pages of the file behind page 0, none of them twice
pub reached_once : (image : ℕ → List ℕ) (root : Root) (live : List ℕ) → Reaches (model_at image root) root live → (n : ℕ)
    → times n live ≤ room_for root.pages n
reached_once image root live found n = subst (λ (l : List ℕ). times n l ≤ room_for root.pages n) (sym found.are) (elim (cases_eq root.free_list 0) [
  | inl none ↦
      let empty : found.parts ≡ [] = no_parts (model_at image root) root found.pages found.parts none found.holds.list in
      subst (λ (l : List ℕ). times n l ≤ room_for root.pages n)
      (sym (ap (λ (parts : List Part). found.pages ++ pages_of parts) empty ∙ append-nil found.pages)) tree_once
  | inr some ↦ omega (arith, names_the_rest (model_at image root) root found.pages found.parts found.entries found.holds some n)
])
  where
    tree_once : times n found.pages ≤ room_for root.pages n
    tree_once = elim (cases_lt 0 (times n found.pages)) [
      | inl some ↦
          let inside : IsInside root.pages n =
          model_inside image root n
          (has_times (λ m. is_ok (model_at image root m) ≡ true) n found.pages
          (map_live (store_of (model_at image root)) root.tree found.pages found.entries found.holds.tree.map) (omega (arith, some))) in
          omega (arith, room_there root.pages n inside, found.holds.tree.once n)
      | inr none ↦ omega (arith, none)
    ]

-- numbers of pages of the file behind page 0, none of them twice, are fewer than the file's pages
pub once_fits : (count most : ℕ) (pages : List ℕ) → 0 < most → count ≤ most → ((n : ℕ) → times n pages ≤ room_for count n) → length pages < most
once_fits count most pages some le once =
    let below : Each (λ n. n < most) pages = each_there (λ n. n < most) pages
    (λ n there. let inside = has_room count n (omega (arith, there, once n)) in omega (arith, inside.1, le)) in
    omega (arith, pages_are_few most (0 ∷ pages) with_zero (some, below))
  where
    with_zero : AreOnce (0 ∷ pages)
    with_zero n = elim (cases_eq n 0) [
      | inl is ↦ subst (λ (m : ℕ). times m (0 ∷ pages) ≤ 1) (sym is) (omega (arith, once 0))
      | inr ne ↦ let test : (n == 0) ≡ false = grind (arith, nat_tests) in omega (arith, ap one_if test, once n, room_most count n)
    ]

pub reached_fits : (image : ℕ → List ℕ) (root : Root) (live : List ℕ) → Reaches (model_at image root) root live → length live < max root.pages 1
reached_fits image root live found =
    once_fits root.pages (max root.pages 1) live (omega arith) (omega arith) (reached_once image root live found)

-- the list that a root names begins in the file, and names fewer pages than it has
pub list_below : (models : ℕ → Result PageModel PageFault) (root : Root) (pages : List ℕ) (parts : List Part) → 0 < root.pages
    → HasList models root pages parts → (root.free_list < root.pages) × (root.free_count < root.pages)
list_below models root pages parts some has = (
  subst (λ (n : ℕ). n < root.pages) has.list.begins (first_below parts (all_pages root.pages (pages_of parts ++ named_by parts) has.list.once)),
  subst (λ (n : ℕ). n < root.pages) has.list.counted (once_fits root.pages root.pages (named_by parts) some (omega arith) (λ n.
      omega (arith, has.list.once n, times_in-append n (pages_of parts) (named_by parts), times_same n (named_by parts)))),
)
  where
    first_below : (those : List Part) → AllByRecursion (λ (n : ℕ). (0 < n) × (n < root.pages)) (pages_of those ++ named_by those)
        → first_page those < root.pages
    first_below [] all = some
    first_below (part ∷ rest) all = all.0.1

-- what is counted by the number of pages that were reached
pub counts_are : (image : ℕ → List ℕ) (root : Root) (live : List ℕ) (counts : PageCounts) (reached : ℕ) → Reaches (model_at image root) root live
    → reached ≡ length live → counts.pages ≡ max root.pages 1 → (reached < max root.pages 1 → 1 + reached + counts.free ≡ counts.pages)
    → AreCounts root live counts
counts_are image root live counts reached found is pages all = record {
  pages = pages;
  all = omega (arith, is, all (omega (arith, is, reached_fits image root live found)));
}

counted_by : (image : ℕ → List ℕ) (root : Root) (result : Result PageCounts OpenFault) (live : List ℕ) (parts : List Part) (entries : List Entry)
    → HasList (model_at image root) root live parts → HoldsMap (model_at image root) root live entries
    → MatchResult result (CountsTree image root) (λ fault. fault ≡ faults.Damaged → HoldsNoFile (model_at image root) root)
    → MatchResult result (AreCounts root (reached_by live parts)) (λ fault. fault ≢ faults.Damaged)
counted_by image root (Ok counts) live parts entries list holds found =
    subst (λ (l : List ℕ). AreCounts root l counts)
    (committed_file (model_at image root) root live found.live parts entries list holds found.reaches).0 found.are
counted_by image root (Err fault) live parts entries list holds found = λ is. found is live parts entries (record { tree = holds; list = list })

counts_there : (image : ℕ → List ℕ) (root : Root) (result : Result PageCounts OpenFault)
    → MatchResult result (CountsTree image root) (λ fault. fault ≡ faults.Damaged → HoldsNoFile (model_at image root) root)
    → IfOk result (CountsTree image root)
counts_there image root (Ok counts) found = found
counts_there image root (Err fault) found = tt

pub counts_so : {D : Type 0} (history : D → History) (result : Result PageCounts OpenFault) (old new : Store D) → OnlyReads history old new
    → (KeepsWord (history new.disk) → MatchResult result (CountsTree (reads (now (history old.disk))) old.root)
    (λ fault. fault ≡ faults.Damaged → HoldsNoFile (model_at (reads (now (history old.disk))) old.root) old.root))
    → CountsPages history result old new
counts_so history result old new only found = record {
  root = only.root;
  stopped = only.stopped;
  committed = committed_still history old new only;
  stands = λ k. counts_there (reads (now (history old.disk))) old.root result (found k);
  counts = λ k live entries committed parts list.
      counted_by (reads (now (history old.disk))) old.root result live parts entries list (committed.keeps.holds (only.disk.extends.kept k)) (found k);
  noted = only.noted;
}
