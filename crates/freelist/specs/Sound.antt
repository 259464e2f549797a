-- The definition of a free page, and what holds of every book: each page that was retired and isn't
-- free yet is listed once, with its version. So the pages that may be taken are those that the
-- definition calls free.
use Rattle.std.specs.Prelude.{◌≡◌, ℕ, ◌+◌, ◌<◌, Bool, true, false, not, ◌&&◌, ◌==◌, nat_lt}
use Rattle.std.specs.Prelude.{if◌then◌else◌, List, [], ◌∷◌, length, get_or, Some, None}
use Rattle.std.specs.List.{list_all}
use Rattle.freelist.specs.Book.{Book, opened, is_free, is_in_use, is_pinned, least_free, retired_in}
use Rattle.freelist.specs.Book.{kept, taken, refused, retired, committed, pinned, unpinned, undone}
use Rattle.freelist.specs.Book.{CanRewind}
use Rattle.freelist.specs.declared.states.PageState.{PageState}
use Rattle.freelist.specs.declared.states.PageState.TheVariants as states
use Rattle.freelist.specs.declared.turns.Retirement.{Retirement}

abbrev pub one_of : ℕ → Retirement → ℕ
one_of page r = if r.page == page then 1 else 0

-- how often a page stands among these
abbrev pub times : ℕ → List Retirement → ℕ
times page [] = 0
times page (r ∷ rest) = one_of page r + times page rest

-- The running turn retired the page, or an earlier one did at a version not older than the oldest
-- pin.
abbrev pub waits : Book → ℕ → Bool
waits b page =
    nat_lt 0 (times page (retired_in b.turn) + times page (kept b.pins b.waiting))

-- The definition: free is any page from 1 to below the limit that is neither in use nor waits.
abbrev pub is_free_by_definition : Book → ℕ → Bool
is_free_by_definition b page =
    nat_lt 0 page
    && (nat_lt page (length b.states) && (not (is_in_use b.states page) && not (waits b page)))

abbrev pub retired_count : PageState → ℕ
retired_count states.Free = 0
retired_count states.InUse = 0
retired_count states.Retired = 1

pub record IsSound (b : Book) : Type 0 where
  -- a page that is retired is listed once, and no other one is listed
  pub listed : (page : ℕ) → times page b.waiting + times page (retired_in b.turn)
      ≡ retired_count (get_or b.states page states.Free)
  -- what waits from earlier turns waits for a pin
  pub needed : list_all (λ r. is_pinned b.pins r.version) b.waiting ≡ true
  -- each page of the running turn is what the turn made it
  pub undoable : CanRewind b.turn b.states

-- ---- laws

-- what a take gives is free, and no page below it is
abbrev pub TakesLeast : Type 0
TakesLeast = (pages : List PageState) (page : ℕ) → least_free pages ≡ Some page
    → (is_free pages page ≡ true) × ((k : ℕ) → k < page → is_free pages k ≡ false)

-- a take gives none only where no page is free
abbrev pub NoneIsFree : Type 0
NoneIsFree = (pages : List PageState) → least_free pages ≡ None
    → (page : ℕ) → is_free pages page ≡ false

-- in a sound book the pages that may be taken are the free ones by the definition
abbrev pub IsFreeByDefinition : Type 0
IsFreeByDefinition = (b : Book) → IsSound b
    → (page : ℕ) → is_free b.states page ≡ is_free_by_definition b page

-- the book that a file is opened with is sound
abbrev pub OpensSound : Type 0
OpensSound = (in_use : List ℕ) (count version : ℕ) → IsSound (opened in_use count version)

-- every call keeps a book sound
pub record StaysSound (b : Book) : Type 0 where
  pub taken : (page : ℕ) → least_free b.states ≡ Some page → IsSound (taken page b)
  pub refused : IsSound (refused b)
  pub retired : (page version : ℕ) → IsSound (retired page version b)
  pub committed : (version : ℕ) → IsSound (committed version b)
  pub pinned : (version : ℕ) → IsSound (pinned version b)
  pub unpinned : (version : ℕ) → IsSound (unpinned version b)
  pub undone : (mark : ℕ) → IsSound (undone mark b)

abbrev pub CallsStaySound : Type 0
CallsStaySound = (b : Book) → IsSound b → StaysSound b
