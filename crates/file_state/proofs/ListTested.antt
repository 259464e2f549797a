-- Parts pass the test of a list just where they are the root's, and the parts that are read are these.
use Rattle.std.proofs.Common.{◌≡◌, ◌≢◌, ℕ, zero, suc, ◌+◌, ◌<◌, ◌≤◌, Bool, true, false, not, ◌&&◌, List, [], ◌∷◌, ◌++◌, length, Option, Some, None}
use Rattle.std.proofs.Common.{Decides, refl, sym, ◌∙◌, ap, subst, arith, inl, inr}
use Rattle.std.specs.Prelude.{◌==◌, nat_lt, nat_le, if◌then◌else◌, Result}
use Rattle.std.specs.List.{AllByRecursion, list_all}
use Rattle.std.proofs.ByRecursion as by_recursion
use Rattle.std.proofs.lemmas.Bool.{cases_lt}
use Rattle.std.proofs.lemmas.Bool.Decides.{Decides-below_and, Decides-eqb, Decides-like, nat_tests}
use Rattle.std.proofs.lemmas.Option.{same_Some}
use Rattle.std.proofs.lemmas.Slice.Eq.{bytes_eq-Decides}
use Rattle.page.specs.Format.{PageModel}
use Rattle.page.specs.declared.page_fault.PageFault.{PageFault}
use Rattle.tree_model.specs.Keys.{Each, times}
use Rattle.tree_model.specs.Reach.{AreOnce}
use Rattle.tree_model.proofs.CapacityLemmas.{pages_are_few}
use Rattle.tree_model.proofs.ListLemmas.{long_map}
use Rattle.freelist.specs.FreeList.{AreOnceBelow, HoldsList, IsFreeList, ListContent, Part, first_page, named_by, pages_of, room_for, times_in}
use Rattle.freelist.specs.ListReading.{AreAllBelow}
use Rattle.freelist.proofs.Marking.{times_in-append}
use Rattle.roots.specs.Image.{HasList, list_in}
use Rattle.roots.specs.declared.root.Root.{Root}
use Rattle.roots.proofs.HeldFileLemmas.{times_same}
use Rattle.file_state.specs.FileTests.{all_below, are_all_below, are_once, are_once_below, has_list, holds_parts, is_free_list, is_part}
use Rattle.file_state.specs.FileTests.{parts_behind, parts_from, parts_in}
use Rattle.file_state.proofs.TestLemmas.{◌also◌, implied_tested, le_tested, unequal_tested}

-- ---- numbers of pages

abbrev room_of : Bool → ℕ
room_of b = if b then 1 else 0

-- what holds of all that stand there holds of one that does
stood : (P : ℕ → Type 0) (xs : List ℕ) → AllByRecursion P xs → (n : ℕ) → 0 < times_in n xs → P n
stood P [] h n some = absurd (omega (arith, some))
stood P (x ∷ xs) h n some = by (n == x) (Decides-eqb n x) some (stood P xs h.1 n)
  where
    by : (b : Bool) → Decides b (n ≡ x) → 0 < room_of b + times_in n xs → (0 < times_in n xs → P n) → P n
    by true same more rest = subst P (sym (same.0 refl)) h.0
    by false same more rest = rest (omega (arith, more))

all_stand : (P : ℕ → Type 0) (xs : List ℕ) → ((n : ℕ) → P n) → AllByRecursion P xs
all_stand P [] h = tt
all_stand P (x ∷ xs) h = (h x, all_stand P xs h)

-- what holds of a number that doesn't stand there is tested of those that do
numbers_tested : (test : ℕ → Bool) (P : ℕ → Type 0) → ((n : ℕ) → Decides (test n) (P n)) → (xs : List ℕ) → ((n : ℕ) → times_in n xs ≡ 0 → P n)
    → Decides (list_all test xs) ((n : ℕ) → P n)
numbers_tested test P each xs rest =
    Decides-like (list_all test xs)
    (λ h n. elim (cases_lt 0 (times_in n xs)) [ inl some ↦ stood P xs h n some | inr none ↦ rest n (omega (arith, none)) ])
    (all_stand P xs)
    (by_recursion.Decides-by_and test P (list_all test) each refl (λ _ _. refl) xs)

pub once_tested : (pages : List ℕ) → Decides (are_once pages) (AreOnce pages)
once_tested pages =
    numbers_tested (λ n. nat_le (times n pages) 1) (λ n. times n pages ≤ 1) (λ n. le_tested (times n pages) 1) pages
    (λ n none. omega (arith, none, times_same n pages))

once_below_tested : (count : ℕ) (pages : List ℕ) → Decides (are_once_below count pages) (AreOnceBelow count pages)
once_below_tested count pages =
    numbers_tested (λ n. nat_le (times_in n pages) (room_for count n)) (λ n. times_in n pages ≤ room_for count n)
    (λ n. le_tested (times_in n pages) (room_for count n)) pages (λ n none. omega (arith, none))

-- no page from the page count on has room
no_room : (count n : ℕ) → count ≤ n → room_for count n ≡ 0
no_room count n past = by (nat_lt 0 n) (nat_lt n count) (grind (arith, nat_tests, past))
  where
    by : (a b : Bool) → b ≡ false → room_of (a && b) ≡ 0
    by true true e = absurd cc
    by true false e = refl
    by false b e = refl

most_room : (count n : ℕ) → room_for count n ≤ 1
most_room count n = by (nat_lt 0 n && nat_lt n count)
  where
    by : (b : Bool) → room_of b ≤ 1
    by true = omega arith
    by false = omega arith

all_below_tested : (count : ℕ) (pages : List ℕ) → Decides (are_all_below count pages) (AreAllBelow count pages)
all_below_tested count pages =
    Decides-like (are_all_below count pages)
    (λ h n. elim (cases_lt n count) [ inl inside ↦ h.1 n inside | inr past ↦ omega (arith, h.0 n, no_room count n past) ])
    (λ h. (λ n. omega (arith, h n), λ n inside. h n))
    (once_below_tested count pages
    also Decides-below_and (λ n. times_in n pages == room_for count n) (λ n. times_in n pages ≡ room_for count n)
    (all_below (λ n. times_in n pages == room_for count n)) (λ n. Decides-eqb (times_in n pages) (room_for count n)) refl (λ _. refl) count)

-- ---- a list

part_tested : (found : Option ListContent) (part : Part) (next : ℕ)
    → Decides (is_part found part next) (found ≡ Some (record { next = next; named = part.named }))
part_tested None part next = (λ e. absurd cc, λ e. absurd cc)
part_tested (Some content) part next =
    Decides-like (is_part (Some content) part next) (λ h i. Some (record { next = h.0 i; named = h.1 i }))
    (λ e. let same = same_Some content (record { next = next; named = part.named }) e in
    (ap (λ (c : ListContent). c.next) same, ap (λ (c : ListContent). c.named) same))
    (Decides-eqb content.next next also bytes_eq-Decides content.named part.named)

parts_tested : (contents : ℕ → Option ListContent) (parts : List Part) → Decides (holds_parts contents parts) (HoldsList contents parts)
parts_tested contents [] = (λ e. tt, λ h. refl)
parts_tested contents (part ∷ rest) = part_tested (contents part.page) part (first_page rest) also parts_tested contents rest

free_list_tested : (contents : ℕ → Option ListContent) (page_count first count : ℕ) (parts : List Part)
    → Decides (is_free_list contents page_count first count parts) (IsFreeList contents page_count first count parts)
free_list_tested contents page_count first count parts =
    Decides-like (is_free_list contents page_count first count parts) (λ h. record { begins = h.0.0.0; holds = h.0.0.1; counted = h.0.1; once = h.1 })
    (λ h. (((h.begins, h.holds), h.counted), h.once))
    (Decides-eqb (first_page parts) first also parts_tested contents parts also Decides-eqb (length (named_by parts)) count
    also once_below_tested page_count (pages_of parts ++ named_by parts))

pub list_tested : (models : ℕ → Result PageModel PageFault) (root : Root) (pages : List ℕ) (parts : List Part)
    → Decides (has_list models root pages parts) (HasList models root pages parts)
list_tested models root pages parts =
    let named = unequal_tested root.free_list 0 in
    let all = pages ++ (pages_of parts ++ named_by parts) in
    Decides-like (has_list models root pages parts) (λ h. record { list = h.0; all = λ some. h.1 (named.1 some) }) (λ h. (h.list, λ e. h.all (named.0 e)))
    (free_list_tested (list_in models) root.pages root.free_list root.free_count parts
    also implied_tested (not (root.free_list == 0)) (are_all_below root.pages all) (all_below_tested root.pages all))

-- ---- the parts that are read

no_page_zero : (page : ℕ) (rest : List ℕ) → times_in 0 (page ∷ rest) ≡ 0 → page ≢ 0
no_page_zero page rest none is =
    let test : (0 == page) ≡ true = grind (arith, nat_tests, is) in
    omega (arith, none, ap room_of test)

parts_read : (contents : ℕ → Option ListContent) (most : ℕ) (parts : List Part) → HoldsList contents parts → times_in 0 (pages_of parts) ≡ 0
    → length parts ≤ most → parts_from contents most (first_page parts) ≡ parts
parts_read contents zero [] h none few = refl
parts_read contents (suc most) [] h none few = refl
parts_read contents zero (part ∷ rest) h none few = absurd (omega (arith, few))
parts_read contents (suc most) (part ∷ rest) h none few =
    let some = no_page_zero part.page (pages_of rest) none in
    let test : (part.page == 0) ≡ false = grind (arith, nat_tests, some) in
    let later = parts_read contents most rest h.1 (omega (arith, none)) (omega (arith, few)) in
    rw test (ap (λ (c : Option ListContent). parts_behind c part.page (parts_from contents most)) h.0 ∙ (λ i. part ∷ later i))

-- each that stands there is below the page count
each_below : (count : ℕ) (pages : List ℕ) → ((n : ℕ) → times_in n pages ≤ room_for count n) → Each (λ n. n < count) pages
each_below count [] once = tt
each_below count (page ∷ pages) once = (inside, each_below count pages (λ n. omega (arith, once n)))
  where
    inside : page < count
    inside = elim (cases_lt page count) [
      | inl below ↦ below
      | inr past ↦
          let test : (page == page) ≡ true = grind (arith, nat_tests) in
          absurd (omega (arith, once page, no_room count page past, ap room_of test))
    ]

pub list_read : (models : ℕ → Result PageModel PageFault) (root : Root) (pages : List ℕ) (parts : List Part) → HasList models root pages parts
    → parts_in models root ≡ parts
list_read models root pages parts has =
    ap (parts_from (list_in models) root.pages) (sym has.list.begins)
    ∙ parts_read (list_in models) root.pages parts has.list.holds (omega (arith, own 0)) few
  where
    own : (n : ℕ) → times_in n (pages_of parts) ≤ room_for root.pages n
    own n = omega (arith, has.list.once n, times_in-append n (pages_of parts) (named_by parts))

    once : AreOnce (pages_of parts)
    once n = omega (arith, own n, most_room root.pages n, times_same n (pages_of parts))

    few : length parts ≤ root.pages
    few = omega (arith, pages_are_few root.pages (pages_of parts) once (each_below root.pages (pages_of parts) own), long_map (λ (p : Part). p.page) parts)
