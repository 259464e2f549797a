-- A list that was made names each other page that isn't in use, and is read again.
use Rattle.std.proofs.Common.{◌≡◌, ◌<◌, ◌≤◌, ◌+◌, ℕ, zero, suc, Bool, true, false, List, [], ◌∷◌, ◌++◌, length, sym, ap, ◌∙◌, arith, refl, inl, inr, Some}
use Rattle.std.proofs.Common.{subst}
use Rattle.std.specs.Prelude.{◌≢◌, ◌==◌, ◌&&◌, get_or, if◌then◌else◌, max, nat_lt, not, Option, Result, Ok, Err}
use Rattle.std.proofs.lemmas.Bool.Decides.{nat_tests}
use Rattle.std.proofs.lemmas.Bool.{cases_eq, cases_lt}
use Rattle.std.proofs.lemmas.List.{get_or-set_other, get_or_default, length-map}
use Rattle.freelist.specs.Book.{Book, is_in_use, is_used_state, least_free, taken}
use Rattle.freelist.specs.FreeList.{AreOnceBelow, HoldsList, IsFreeList, IsPartition, ListContent, Part, first_page, named_by, pages_of, room_for, times_in}
use Rattle.freelist.specs.FreeList.{written}
use Rattle.freelist.specs.ListLaws.{GivesBack, MadeRows, used_below}
use Rattle.freelist.specs.ListReading.{ReadsList}
use Rattle.freelist.specs.ListWriting.{IsMade, TakesAll, content_at, count_with, is_unused}
use Rattle.freelist.specs.Sound.{IsSound}
use Rattle.freelist.specs.declared.list.FreeList.{FreeList}
use Rattle.freelist.specs.declared.list_fault.ListFault.{ListFault}
use Rattle.freelist.specs.declared.states.PageState.{PageState}
use Rattle.freelist.specs.declared.states.PageState.TheVariants as states
use Rattle.freelist.proofs.ListedBooks.{room_is, room_past}
use Rattle.freelist.proofs.Marking.{times_in-append}
use Rattle.freelist.proofs.SoundBooks.{stays_sound}
use Rattle.freelist.proofs.TakenPages.{is_used, least_state, some_page, within}
use Rattle.freelist.proofs.UnusedPages.{times_filtered, times_unused, used_not_unused}
use Rattle.freelist.proofs.WrittenLists.{reading_is_exact, written_is_read, written_named, written_pages}

-- 1 for what holds
abbrev one_if : Bool → ℕ
one_if b = if b then 1 else 0

-- ---- the list's own pages

pub count_most : (page_count : ℕ) (pages : List ℕ) → page_count ≤ count_with page_count pages
count_most page_count [] = omega arith
count_most page_count (p ∷ pages) = omega (arith, count_most (max page_count (p + 1)) pages)

-- they lie below the new page count
pub none_past : (page_count n : ℕ) (pages : List ℕ) → count_with page_count pages ≤ n → times_in n pages ≡ 0
none_past page_count n [] past = refl
none_past page_count n (p ∷ pages) past =
    let other : n ≢ p = λ same. absurd (omega (arith, past, count_most (max page_count (p + 1)) pages, same)) in
    let eq : (n == p) ≡ false = grind (arith, nat_tests) in
    rw eq (omega (arith, none_past (max page_count (p + 1)) n pages past))

-- a free page isn't in use, until it is taken
is_one : (b : Book) (p : ℕ) → least_free b.states ≡ Some p → is_unused b.states p ≡ true
is_one b p least =
    let some : 0 < p = some_page b (taken p b) p (least, refl) in
    let positive : nat_lt 0 p ≡ true = grind (arith, nat_tests) in
    let free : get_or b.states p states.InUse ≡ states.Free =
    get_or_default b.states p states.InUse states.Retired (within b (taken p b) p (least, refl)) ∙ least_state b.states p least in
    rw (positive, free) refl

is_one_no_more : (b : Book) (p : ℕ) → least_free b.states ≡ Some p → is_unused (taken p b).states p ≡ false
is_one_no_more b p least = used_not_unused (taken p b).states p (is_used b (taken p b) p (least, refl) (taken p b).states refl)

-- each page that isn't in use was taken for the list, or still isn't
pub split_unused : (pages : List ℕ) (old new : Book) → TakesAll pages old new → (n : ℕ)
    → times_in n pages + one_if (is_unused new.states n) ≡ one_if (is_unused old.states n)
split_unused [] old new same n = omega (arith, ap (λ (b : Book). one_if (is_unused b.states n)) same)
split_unused (p ∷ pages) old new takes n = elim (cases_eq n p) [
  | inl same ↦
      let eq : (n == p) ≡ true = grind (arith, nat_tests) in
      let was : one_if (is_unused old.states n) ≡ 1 =
      ap (λ (k : ℕ). one_if (is_unused old.states k)) same ∙ ap one_if (is_one old p takes.0) in
      let now : one_if (is_unused (taken p old).states n) ≡ 0 =
      ap (λ (k : ℕ). one_if (is_unused (taken p old).states k)) same ∙ ap one_if (is_one_no_more old p takes.0) in
      let one : times_in n (p ∷ pages) ≡ 1 + times_in n pages = rw eq refl in
      omega (arith, one, was, now, split_unused pages (taken p old) new takes.1 n)
  | inr other ↦
      let eq : (n == p) ≡ false = grind (arith, nat_tests) in
      let still : is_unused (taken p old).states n ≡ is_unused old.states n =
      ap (λ (x : PageState). nat_lt 0 n && not (is_used_state x)) (get_or-set_other old.states p n states.InUse states.InUse other) in
      let none : times_in n (p ∷ pages) ≡ 0 + times_in n pages = rw eq refl in
      omega (arith, none, ap one_if still, split_unused pages (taken p old) new takes.1 n)
]

-- ---- each page once

pub times_used : (n k : ℕ) (pages : List PageState) → times_in n (used_below k pages) ≡ one_if (nat_lt n k && (nat_lt 0 n && is_in_use pages n))
times_used n k pages = times_filtered (λ (m : ℕ). nat_lt 0 m && is_in_use pages m) (λ (m : ℕ). used_below m pages) refl (λ m. refl) n k

module _ (page_count : ℕ) (pages named : List ℕ) (old new : Book) (made : IsMade page_count pages named old new) where
  abbrev count : ℕ
  count = count_with page_count pages

  times_named : (n : ℕ) → times_in n named ≡ one_if (nat_lt n count && is_unused new.states n)
  times_named n = ap (times_in n) made.names ∙ times_unused n count new.states

  sum_below : (n : ℕ) → n < count → times_in n pages + times_in n named ≡ one_if (is_unused old.states n)
  sum_below n inside =
      let test : nat_lt n count ≡ true = grind (arith, nat_tests) in
      let there : times_in n named ≡ one_if (is_unused new.states n) = times_named n ∙ rw test refl in
      omega (arith, there, split_unused pages old new made.takes n)

  sum_past : (n : ℕ) → count ≤ n → times_in n pages + times_in n named ≡ 0
  sum_past n past =
      let test : nat_lt n count ≡ false = grind (arith, nat_tests) in
      let there : times_in n named ≡ 0 = times_named n ∙ rw test refl in
      omega (arith, there, none_past page_count n pages past)

  pub once : AreOnceBelow count (pages ++ named)
  once n = elim (cases_lt n count) [
    | inl inside ↦ below n inside
    | inr past ↦ omega (arith, times_in-append n pages named, sum_past n past)
  ]
    where
      most : (b : Bool) → one_if b ≤ 1
      most true = omega arith
      most false = omega arith

      below : (k : ℕ) → k < count → times_in k (pages ++ named) ≤ room_for count k
      below zero inside = omega (arith, times_in-append 0 pages named, sum_below 0 inside)
      below (suc k) inside =
          omega (
            arith,
            times_in-append (suc k) pages named,
            sum_below (suc k) inside,
            most (is_unused old.states (suc k)),
            room_is count (suc k) (omega arith) inside,
          )

  -- ---- what is in use, the list's, and what it names

  state_is : (s : PageState) → one_if (is_used_state s) + one_if (not (is_used_state s)) ≡ 1
  state_is states.Free = refl
  state_is states.InUse = refl
  state_is states.Retired = refl

  -- a page below the limit is in use or isn't
  one_of_two : (n : ℕ) → 0 < n → n < length old.states
      → one_if (nat_lt 0 n && is_in_use old.states n) + one_if (is_unused old.states n) ≡ 1
  one_of_two n some inside =
      let positive : nat_lt 0 n ≡ true = grind (arith, nat_tests) in
      rw (positive, get_or_default old.states n states.InUse states.Retired inside) (state_is (get_or old.states n states.Retired))

  pub partition : count ≤ length old.states → IsPartition count (used_below count old.states) (written pages named)
  partition fits n =
      let parts : times_in n (used_below count old.states ++ (pages_of (written pages named) ++ named_by (written pages named)))
      ≡ times_in n (used_below count old.states) + (times_in n pages + times_in n named) =
      omega (
        arith,
        times_in-append n (used_below count old.states) (pages_of (written pages named) ++ named_by (written pages named)),
        times_in-append n (pages_of (written pages named)) (named_by (written pages named)),
        ap (times_in n) (written_pages pages named),
        ap (times_in n) (written_named pages named made.room),
      ) in
      elim (cases_lt n count) [
        | inl inside ↦ below n inside parts
        | inr past ↦
            let test : nat_lt n count ≡ false = grind (arith, nat_tests) in
            let none : times_in n (used_below count old.states) ≡ 0 = times_used n count old.states ∙ rw test refl in
            omega (arith, parts, none, sum_past n past, room_past count n past)
      ]
    where
      below : (k : ℕ) → k < count
          → times_in k (used_below count old.states ++ (pages_of (written pages named) ++ named_by (written pages named)))
          ≡ times_in k (used_below count old.states) + (times_in k pages + times_in k named)
          → times_in k (used_below count old.states ++ (pages_of (written pages named) ++ named_by (written pages named)))
          ≡ room_for count k
      below zero inside parts =
          let test : nat_lt 0 count ≡ true = grind (arith, nat_tests) in
          let none : times_in 0 (used_below count old.states) ≡ 0 = times_used 0 count old.states ∙ rw test refl in
          omega (arith, parts, none, sum_below 0 inside)
      below (suc k) inside parts =
          let test : nat_lt (suc k) count ≡ true = grind (arith, nat_tests) in
          let used : times_in (suc k) (used_below count old.states) ≡ one_if (nat_lt 0 (suc k) && is_in_use old.states (suc k)) =
          times_used (suc k) count old.states ∙ rw test refl in
          omega (
            arith,
            parts,
            used,
            sum_below (suc k) inside,
            one_of_two (suc k) (omega arith) (omega (arith, inside, fits)),
            room_is count (suc k) (omega arith) inside,
          )

  -- ---- reading it

  pub there : (contents : ℕ → Option ListContent) → HoldsList contents (written pages named)
      → IsFreeList contents count (first_page (written pages named)) (length named) (written pages named)
  there contents holds = (written_is_read contents count pages named made.room once holds).list

  pub reads_back : (contents : ℕ → Option ListContent) → HoldsList contents (written pages named)
      → (result : Result FreeList ListFault) → ReadsList contents count (first_page (written pages named)) (length named) result
      → GivesBack pages named result
  reads_back contents holds (Ok list) read =
      let same : read.parts ≡ written pages named =
      reading_is_exact contents count (first_page (written pages named)) (length named) (length named) read.parts (written pages named) read.list
      (there contents holds) in (
        read.pages_are ∙ ap pages_of same ∙ written_pages pages named,
        read.named_are ∙ ap named_by same ∙ written_named pages named made.room,
      )
  reads_back contents holds (Err fault) read = λ damaged. read damaged (written pages named) (there contents holds)

holds_each : (contents : ℕ → Option ListContent) (parts : List Part)
    → ((at : ℕ) → at < length parts → contents (get_or (pages_of parts) at 0) ≡ content_at parts at) → HoldsList contents parts
holds_each contents [] each = tt
holds_each contents (part ∷ rest) each =
    (each 0 (omega arith), holds_each contents rest (λ at inside. each (suc at) (omega (arith, inside))))

pub made_is_read : (contents : ℕ → Option ListContent) (page_count : ℕ) (pages named : List ℕ) (old new : Book)
    → IsMade page_count pages named old new
    → ((at : ℕ) → at < length pages → contents (get_or pages at 0) ≡ content_at (written pages named) at)
    → (result : Result FreeList ListFault)
    → ReadsList contents (count_with page_count pages) (first_page (written pages named)) (length named) result
    → GivesBack pages named result
made_is_read contents page_count pages named old new made each result =
    reads_back page_count pages named old new made contents (holds_each contents (written pages named) (λ at inside.
    ap (λ (ps : List ℕ). contents (get_or ps at 0)) (written_pages pages named)
    ∙ each at (omega (arith, inside, ap length (written_pages pages named), length-map (written pages named) (λ (part : Part). part.page))))) result

-- ---- the book

pub stays_sound_taking : (pages : List ℕ) (old new : Book) → TakesAll pages old new → IsSound old → IsSound new
stays_sound_taking [] old new same sound = subst IsSound (sym same) sound
stays_sound_taking (p ∷ pages) old new takes sound =
    stays_sound_taking pages (taken p old) new takes.1 ((stays_sound old sound).taken p takes.0)

-- ---- worked rows

pub made_rows : MadeRows
made_rows = record {
  nothing = record { takes = refl; names = refl; room = omega arith; few = omega arith; none = λ _. refl };
  below = record { takes = (refl, refl); names = refl; room = omega arith; few = omega arith; none = λ e. cc };
  behind = record { takes = (refl, refl); names = refl; room = omega arith; few = omega arith; none = λ e. cc };
  grows = refl;
  alone = record { takes = (refl, refl); names = refl; room = omega arith; few = omega arith; none = λ e. cc };
}
