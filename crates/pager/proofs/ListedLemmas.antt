-- The pages that a commit takes for its list of free pages.
use Rattle.std.proofs.Common.{◌≡◌, ℕ, zero, suc, ◌+◌, ◌<◌, ◌≤◌, max, Bool, true, false, List, [], ◌∷◌, length, set, drop, get_or, refl, sym}
use Rattle.std.proofs.Common.{◌∙◌, ap, arith}
use Rattle.std.proofs.Common.{inl, inr}
use Rattle.std.specs.Prelude.{◌&&◌, nat_lt, Result, Ok}
use Rattle.std.specs.List.{AllByRecursion}
use Rattle.std.proofs.lemmas.Bool.{cases_Bool, cases_eq, cases_lt}
use Rattle.std.proofs.lemmas.Bool.Decides.{nat_tests}
use Rattle.std.proofs.lemmas.List.{get_or-set_other, get_or-set_same, length-append, length-set}
use Rattle.page.specs.Format.{PageModel}
use Rattle.page.specs.declared.page_fault.PageFault.{PageFault}
use Rattle.tree_model.specs.Keys.{times}
use Rattle.tree_model.specs.Store.{flag}
use Rattle.freelist.specs.Book.{Book, is_free, is_free_state, is_in_use, is_used_state, retired, taken}
use Rattle.freelist.specs.FreeList.{HoldsList, written}
use Rattle.freelist.specs.ListWriting.{TakesAll, count_with, is_unused, unused_below}
use Rattle.freelist.specs.declared.states.PageState.{PageState}
use Rattle.freelist.specs.declared.states.PageState.TheVariants as states
use Rattle.freelist.specs.declared.turns.Change.TheVariants as changes
use Rattle.freelist.proofs.Rewinding.{below, free_is, used_is}
use Rattle.roots.specs.Image.{list_in, listed_model}
use Rattle.roots.specs.Listed.{list_models}
use Rattle.roots.specs.Turn.{LieBehind, end_behind}
use Rattle.roots.proofs.MadeLemmas.{end_grows}
use Rattle.pager.specs.Order.{merged}
use Rattle.pager.specs.Writing.{retired_all}
use Rattle.pager.proofs.BookLemmas.{no_time, one_time}
use Rattle.pager.proofs.MemberLemmas.{more_times}
use Rattle.pager.proofs.MergeLemmas.{end_merged}
use Rattle.pager.proofs.TakeLemmas.{none_below, not_free, others_free, page_below, was_free}

-- ---- what is free

-- what is free after a retirement was free before
still_free : (p v n : ℕ) (b : Book) → is_free (retired p v b).states n ≡ true → is_free b.states n ≡ true
still_free p v n b free = elim (cases_Bool (is_in_use b.states p)) [
  | inl so ↦
      let is : (retired p v b).states ≡ set b.states p states.Retired = rw so refl in
      let free_now : is_free (set b.states p states.Retired) n ≡ true = ap (λ (pages : List PageState). is_free pages n) (sym is) ∙ free in
      elim (cases_eq n p) [
        | inl same ↦
            let within : p < length b.states = below b.states p states.InUse (used_is (get_or b.states p states.Retired) so) (λ e. cc) in
            let here : is_free (set b.states p states.Retired) n ≡ (nat_lt 0 p && false) =
            ap (is_free (set b.states p states.Retired)) same
            ∙ ap (λ (s : PageState). nat_lt 0 p && is_free_state s) (get_or-set_same b.states p states.Retired states.Retired within) in
            absurd (never (nat_lt 0 p) (sym here ∙ free_now))
        | inr ne ↦ ap (λ (s : PageState). nat_lt 0 n && is_free_state s) (sym (get_or-set_other b.states p n states.Retired states.Retired ne)) ∙ free_now
      ]
  | inr not_so ↦ let is : (retired p v b).states ≡ b.states = rw not_so refl in ap (λ (pages : List PageState). is_free pages n) (sym is) ∙ free
]
  where
    never : (some : Bool) → (some && false) ≡ true → ⊥
    never true is = cc
    never false is = cc

pub free_before : (v : ℕ) (pages : List ℕ) (b : Book) (n : ℕ) → is_free (retired_all v pages b).states n ≡ true → is_free b.states n ≡ true
free_before v [] b n free = free
free_before v (p ∷ pages) b n free = still_free p v n b (free_before v pages (retired p v b) n free)

-- what is free isn't in use
pub free_unused : (pages : List PageState) (n : ℕ) → is_free pages n ≡ true → is_in_use pages n ≡ false
free_unused pages n free = by_state (nat_lt 0 n) (get_or pages n states.Retired) free
  where
    by_state : (some : Bool) (s : PageState) → (some && is_free_state s) ≡ true → is_used_state s ≡ false
    by_state true states.Free is = refl
    by_state true states.InUse is = absurd cc
    by_state true states.Retired is = absurd cc
    by_state false s is = absurd cc

-- and is a page below the limit
pub free_inside : (pages : List PageState) (n : ℕ) → is_free pages n ≡ true → (0 < n) × (n < length pages)
free_inside pages n free = by_test (nat_lt 0 n) refl free
  where
    by_test : (some : Bool) → nat_lt 0 n ≡ some → (some && is_free_state (get_or pages n states.Retired)) ≡ true → (0 < n) × (n < length pages)
    by_test true test is = (grind (arith, nat_tests, test), below pages n states.Free (free_is (get_or pages n states.Retired) is) (λ e. cc))
    by_test false test is = absurd cc

-- ---- the least free pages, one after the other

-- each was free
pub all_free : (pages : List ℕ) (b final : Book) → TakesAll pages b final → (n : ℕ) → 1 ≤ times n pages → is_free b.states n ≡ true
all_free [] b final takes n some = absurd (omega (arith, some))
all_free (p ∷ pages) b final takes n some = elim (cases_eq n p) [
  | inl same ↦ ap (is_free b.states) same ∙ was_free b p takes.0
  | inr ne ↦ sym (others_free b p takes.0 n ne) ∙ all_free pages (taken p b) final takes.1 n (omega (arith, some, no_time n p pages ne))
]

-- they ascend, and so do the pages of the list
pub list_rises : (last generation : ℕ) (pages named : List ℕ) (b final : Book) → TakesAll pages b final
    → ((n : ℕ) → is_free b.states n ≡ true → last < n) → LieBehind last (list_models generation (written pages named))
list_rises last generation [] named b final takes above = tt
list_rises last generation (p ∷ pages) named b final takes above =
    (above p (was_free b p takes.0), list_rises p generation pages (drop 1019 named) (taken p b) final takes.1 later)
  where
    later : (n : ℕ) → is_free (taken p b).states n ≡ true → p < n
    later n free = elim (cases_lt p n) [
      | inl less ↦ less
      | inr not_less ↦ elim (cases_eq n p) [
        | inl same ↦ let never : true ≡ false = sym free ∙ ap (is_free (taken p b).states) same ∙ not_free b p takes.0 in absurd cc
        | inr ne ↦
            let never : true ≡ false = sym free ∙ others_free b p takes.0 n ne ∙ none_below b p takes.0 n (omega (arith, not_less, ne)) in absurd cc
      ]
    ]

-- and are in use then
pub used_by_takes : (pages : List ℕ) (b final : Book) → TakesAll pages b final → (n : ℕ)
    → flag (is_in_use final.states n) ≡ flag (is_in_use b.states n) + times n pages
used_by_takes [] b final same n = omega (arith, ap (λ (c : Book). flag (is_in_use c.states n)) same)
used_by_takes (p ∷ pages) b final takes n = elim (cases_eq n p) [
  | inl same ↦
      let used : flag (is_in_use (taken p b).states n) ≡ 1 =
      ap (λ (k : ℕ). flag (is_in_use (taken p b).states k)) same
      ∙ ap (λ (s : PageState). flag (is_used_state s)) (get_or-set_same b.states p states.InUse states.Retired (page_below b p takes.0)) in
      let free : flag (is_in_use b.states n) ≡ 0 =
      ap (λ (k : ℕ). flag (is_in_use b.states k)) same ∙ ap flag (free_unused b.states p (was_free b p takes.0)) in
      omega (arith, used_by_takes pages (taken p b) final takes.1 n, used, free, one_time n p pages same)
  | inr ne ↦
      let still : flag (is_in_use (taken p b).states n) ≡ flag (is_in_use b.states n) =
      ap (λ (s : PageState). flag (is_used_state s)) (get_or-set_other b.states p n states.InUse states.Retired ne) in
      omega (arith, used_by_takes pages (taken p b) final takes.1 n, still, no_time n p pages ne)
]

-- what else a book has stays
pub record IsAsWide (old new : Book) : Type 0 where
  pub pins : new.pins ≡ old.pins
  pub waiting : new.waiting ≡ old.waiting
  pub long : length new.states ≡ length old.states
  pub full : new.failed_allocations ≡ old.failed_allocations
  pub longer : length old.turn ≤ length new.turn

pub as_wide : (pages : List ℕ) (b final : Book) → TakesAll pages b final → IsAsWide b final
as_wide [] b final same = record {
  pins = ap (λ (c : Book). c.pins) same;
  waiting = ap (λ (c : Book). c.waiting) same;
  long = ap (λ (c : Book). length c.states) same;
  full = ap (λ (c : Book). c.failed_allocations) same;
  longer = omega (arith, ap (λ (c : Book). length c.turn) same);
}
as_wide (p ∷ pages) b final takes =
    let rest = as_wide pages (taken p b) final takes.1 in
    record {
      pins = rest.pins;
      waiting = rest.waiting;
      long = rest.long ∙ length-set b.states p states.InUse;
      full = rest.full;
      longer = omega (arith, rest.longer, length-append b.turn (changes.Taken p ∷ []));
    }

-- ---- the pages of the list, as they are written

pub models_of : (Q : PageModel → Type 0) (generation : ℕ) (pages named : List ℕ) → ((m : PageModel) → m.generation ≡ generation → 1 ≤ times m.page pages → Q m)
    → AllByRecursion Q (list_models generation (written pages named))
models_of Q generation [] named there = tt
models_of Q generation (p ∷ pages) named there = (
  there _ refl (omega (arith, one_time p p pages refl)),
  models_of Q generation pages (drop 1019 named) (λ m born some. there m born (omega (arith, some, more_times m.page p pages))),
)

-- a file has no more pages than the book
pub count_within : (most count : ℕ) (pages : List ℕ) → count ≤ most → ((n : ℕ) → 1 ≤ times n pages → n < most) → count_with count pages ≤ most
count_within most count [] le inside = le
count_within most count (p ∷ pages) le inside =
    let here : p < most = inside p (omega (arith, one_time p p pages refl)) in
    count_within most (max count (p + 1)) pages (omega (arith, le, here)) (λ n some. inside n (omega (arith, some, more_times n p pages)))

-- a list names fewer pages than the file has
pub few_unused : (count : ℕ) (pages : List PageState) → length (unused_below count pages) ≤ count
few_unused zero pages = omega arith
few_unused (suc count) pages = elim (cases_Bool (is_unused pages count)) [
  | inl so ↦ rw so (omega (arith, few_unused count pages, length-append (unused_below count pages) (count ∷ [])))
  | inr not_so ↦ rw not_so (omega (arith, few_unused count pages, length-append (unused_below count pages) []))
]

-- the file ends behind them
count_list : (most end last generation : ℕ) (pages named : List ℕ) → end ≤ last + 1 → LieBehind last (list_models generation (written pages named))
    → max most (end_behind end (list_models generation (written pages named))) ≡ count_with (max most end) pages
count_list most end last generation [] named le lie = refl
count_list most end last generation (p ∷ pages) named le lie =
    let same : max most (p + 1) ≡ max (max most end) (p + 1) = omega (arith, le, lie.0) in
    count_list most (p + 1) p generation pages (drop 1019 named) (omega arith) lie.1 ∙ ap (λ (n : ℕ). count_with n pages) same

pub count_all : (most generation : ℕ) (xs : List PageModel) (pages named : List ℕ)
    → let ys = list_models generation (written pages named) in LieBehind 0 xs → LieBehind 0 ys → LieBehind 0 (merged xs ys)
    → max most (end_behind 1 (merged xs ys)) ≡ count_with (max most (end_behind 1 xs)) pages
count_all most generation xs pages named lie lies both =
    let ys = list_models generation (written pages named) in
    let grown : 1 ≤ end_behind 1 xs = end_grows xs 0 1 refl lie in
    let reached : max most (end_behind 1 (merged xs ys)) ≡ max (max most (end_behind 1 xs)) (end_behind 1 ys) =
    omega (arith, end_merged xs ys lie lies both) in
    let same : max (max most (end_behind 1 xs)) 1 ≡ max most (end_behind 1 xs) = omega (arith, grown) in
    reached ∙ count_list (max most (end_behind 1 xs)) 1 0 generation pages named (omega arith) lies ∙ ap (λ (n : ℕ). count_with n pages) same

-- where each is there, they hold the list
pub holds_listed : (models : ℕ → Result PageModel PageFault) (generation : ℕ) (pages named : List ℕ)
    → AllByRecursion (λ (m : PageModel). models m.page ≡ Ok m) (list_models generation (written pages named)) → HoldsList (list_in models) (written pages named)
holds_listed models generation [] named there = tt
holds_listed models generation (p ∷ pages) named there = (ap listed_model there.0, holds_listed models generation pages (drop 1019 named) there.1)
