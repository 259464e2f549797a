-- The book of a file's pages: what each page is, and what each call makes of it.
use Rattle.std.specs.Prelude.{◌≡◌, ℕ, ◌+◌, ◌-◌, ◌<◌, ◌≤◌, ◌^◌, Bool, true, false, ◌&&◌, ◌==◌}
use Rattle.std.specs.Prelude.{nat_lt, nat_le, min, if◌then◌else◌, List, [], ◌∷◌, ◌++◌, length, take}
use Rattle.std.specs.Prelude.{drop, get_or, slice_set, replicate, Option, Some, None}
use Rattle.std.specs.List.{filter, list_any}
use Rattle.freelist.specs.declared.states.PageState.{PageState}
use Rattle.freelist.specs.declared.states.PageState.TheVariants as states
use Rattle.freelist.specs.declared.turns.Retirement.{Retirement}
use Rattle.freelist.specs.declared.turns.Change.{Change}
use Rattle.freelist.specs.declared.turns.Change.TheVariants as changes

-- ---- the book

pub record Book : Type 0 where
  -- what each page below the limit is, from page 0 on
  pub states : List PageState
  -- the pages that earlier turns retired and that a pin still keeps, with their versions
  pub waiting : List Retirement
  -- what the running turn took and retired, in order
  pub turn : List Change
  -- the pinned versions, each as often as it was pinned
  pub pins : List ℕ
  -- the version that was committed last
  pub version : ℕ
  -- how often a page was asked for and none was free
  pub failed_allocations : ℕ

abbrev pub is_free_state : PageState → Bool
is_free_state states.Free = true
is_free_state states.InUse = false
is_free_state states.Retired = false

abbrev pub is_used_state : PageState → Bool
is_used_state states.Free = false
is_used_state states.InUse = true
is_used_state states.Retired = false

-- A page is free where it may be taken. Page 0 holds the roots and never is.
abbrev pub is_free : List PageState → ℕ → Bool
is_free pages page = nat_lt 0 page && is_free_state (get_or pages page states.Retired)

abbrev pub is_in_use : List PageState → ℕ → Bool
is_in_use pages page = is_used_state (get_or pages page states.Retired)

-- Some pin isn't newer than this version: so the oldest pin isn't.
abbrev pub is_pinned : List ℕ → ℕ → Bool
is_pinned pins version = list_any (λ pin. nat_le pin version) pins

-- ---- taking

-- the first free page of these, of which the first has this number
abbrev pub first_free : ℕ → List PageState → Option ℕ
first_free n [] = None
first_free n (state ∷ rest) = if is_free_state state then Some n else first_free (n + 1) rest

-- the least free page
abbrev pub least_free : List PageState → Option ℕ
least_free pages = first_free 1 (drop 1 pages)

abbrev pub taken : ℕ → Book → Book
taken page b = record b {
  states = slice_set b.states page states.InUse;
  turn = b.turn ++ changes.Taken page ∷ [];
}

abbrev pub refused : Book → Book
refused b = record b { failed_allocations = min (b.failed_allocations + 1) (2 ^ 64 - 1) }

-- what a take gives: the least free page, or none where none is free
abbrev pub Takes : Option ℕ → Book → Book → Type 0
Takes (Some page) old new = (least_free old.states ≡ Some page) × (new ≡ taken page old)
Takes None old new = (least_free old.states ≡ None) × (new ≡ refused old)

-- ---- retiring

-- a page in use is retired at a version; another page stays what it is
abbrev pub retired : ℕ → ℕ → Book → Book
retired page version b =
    if is_in_use b.states page then record b {
      states = slice_set b.states page states.Retired;
      turn = b.turn ++ changes.Retired page version ∷ [];
    } else b

-- ---- the end of a turn, and of a pin

-- what a turn retired
abbrev pub retired_in : List Change → List Retirement
retired_in [] = []
retired_in (changes.Taken page ∷ rest) = retired_in rest
retired_in (changes.Retired page version ∷ rest) =
    record { page = page; version = version } ∷ retired_in rest

-- these of the retired pages that a pin keeps
abbrev pub kept : List ℕ → List Retirement → List Retirement
kept pins retirements = filter (λ r. is_pinned pins r.version) retirements

-- the pages after these were freed, but for those that a pin keeps
abbrev pub freed : List ℕ → List Retirement → List PageState → List PageState
freed pins [] pages = pages
freed pins (r ∷ rest) pages =
    freed pins rest
    (if is_pinned pins r.version then pages else slice_set pages r.page states.Free)

abbrev pub committed : ℕ → Book → Book
committed version b = record b {
  states = freed b.pins (retired_in b.turn) b.states;
  waiting = b.waiting ++ kept b.pins (retired_in b.turn);
  turn = [];
  version = version;
}

abbrev pub pinned : ℕ → Book → Book
pinned version b = record b { pins = b.pins ++ version ∷ [] }

-- the pins without one of this version
abbrev pub without : ℕ → List ℕ → List ℕ
without version [] = []
without version (pin ∷ pins) = if pin == version then pins else pin ∷ without version pins

abbrev pub released : List ℕ → Book → Book
released pins b = record b {
  states = freed pins b.waiting b.states;
  waiting = kept pins b.waiting;
  pins = pins;
}

abbrev pub unpinned : ℕ → Book → Book
unpinned version b = released (without version b.pins) b

-- ---- undoing

-- what the pages were before a change
abbrev pub undo : Change → List PageState → List PageState
undo (changes.Taken page) pages = slice_set pages page states.Free
undo (changes.Retired page version) pages = slice_set pages page states.InUse

-- what the pages were before these changes, of which the last is undone first
abbrev pub rewind : List Change → List PageState → List PageState
rewind [] pages = pages
rewind (change ∷ later) pages = undo change (rewind later pages)

-- what a change made of its page is still there
abbrev pub CanUndo : Change → List PageState → Type 0
CanUndo (changes.Taken page) pages = get_or pages page states.Retired ≡ states.InUse
CanUndo (changes.Retired page version) pages = get_or pages page states.Free ≡ states.Retired

abbrev pub CanRewind : List Change → List PageState → Type 0
CanRewind [] pages = Unit {0}
CanRewind (change ∷ later) pages = CanUndo change (rewind later pages) × CanRewind later pages

-- the book without the turn's changes but the first so many
abbrev pub undone : ℕ → Book → Book
undone mark b = record b {
  states = rewind (drop mark b.turn) b.states;
  turn = take mark b.turn;
}

-- ---- opening

-- the pages after these were found in use
abbrev pub with_used : List ℕ → List PageState → List PageState
with_used [] pages = pages
with_used (page ∷ rest) pages = with_used rest (slice_set pages page states.InUse)

-- the book of a file with so many pages below its limit, of which these are in use
abbrev pub opened : List ℕ → ℕ → ℕ → Book
opened in_use count version = record {
  states = with_used in_use (replicate count states.Free);
  waiting = [];
  turn = [];
  pins = [];
  version = version;
  failed_allocations = 0;
}

-- ---- what serves the prover alone

-- from page 1 on, no page below this one is free
pub record IsStart (start : ℕ) (pages : List PageState) : Type 0 where
  pub after : 1 ≤ start
  pub within : start ≤ length pages
  pub few : length pages < 2 ^ 32
  pub passed : (k : ℕ) → 1 ≤ k → k < start
      → is_free_state (get_or pages k states.Retired) ≡ false
