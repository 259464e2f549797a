-- The written list of a file's free pages: pages of its own, one behind the other, each of which
-- names up to 1,019 pages.
use Rattle.std.specs.Prelude.{◌≡◌, ℕ, ◌+◌, ◌/◌, ◌≤◌, ◌&&◌, ◌==◌, nat_lt, if◌then◌else◌, List, []}
use Rattle.std.specs.Prelude.{◌∷◌, ◌++◌, length, map, take, drop, Option, Some}
use Rattle.std.specs.Prelude.{◌-◌, replicate, slice_set}
use Rattle.std.specs.List.{flat_map}
use Rattle.freelist.specs.Book.{Book}
use Rattle.freelist.specs.declared.states.PageState.{PageState}
use Rattle.freelist.specs.declared.states.PageState.TheVariants as states

-- What a page of the list holds: the page that goes on, or 0 at the end, and the pages that it
-- names.
pub record ListContent : Type 0 where
  pub next : ℕ
  pub named : List ℕ

-- a page of the list, and the pages that it names
pub record Part : Type 0 where
  pub page : ℕ
  pub named : List ℕ

-- the list's own pages, and the pages that it names, each in its order
abbrev pub pages_of : List Part → List ℕ
pages_of parts = map (λ part. part.page) parts

abbrev pub named_by : List Part → List ℕ
named_by parts = flat_map (λ part. part.named) parts

-- the page that these parts begin with, or 0 where there are none
abbrev pub first_page : List Part → ℕ
first_page [] = 0
first_page (part ∷ rest) = part.page

-- These parts are what the pages hold: each one leads to the next. A page that is no page of a list
-- has no content.
abbrev pub HoldsList : (ℕ → Option ListContent) → List Part → Type 0
HoldsList contents [] = Unit {0}
HoldsList contents (part ∷ rest) =
    (contents part.page ≡ Some (record { next = first_page rest; named = part.named }))
    × HoldsList contents rest

-- ---- numbers of pages

-- how often a number stands among these
abbrev pub times_in : ℕ → List ℕ → ℕ
times_in n [] = 0
times_in n (x ∷ xs) = (if n == x then 1 else 0) + times_in n xs

-- 1 for the number of a page from 1 to below the page count, 0 for any other
abbrev pub room_for : ℕ → ℕ → ℕ
room_for page_count page = if nat_lt 0 page && nat_lt page page_count then 1 else 0

-- each of these is the number of such a page, and none stands there twice
abbrev pub AreOnceBelow : ℕ → List ℕ → Type 0
AreOnceBelow page_count pages = (page : ℕ) → times_in page pages ≤ room_for page_count page

-- The list of a file with so many pages, whose root names its first page and says how many pages it
-- names: its own pages and those that it names are pages of the file, none of them twice.
pub record IsFreeList (contents : ℕ → Option ListContent) (page_count first count : ℕ)
    (parts : List Part) : Type 0 where
  pub begins : first_page parts ≡ first
  pub holds : HoldsList contents parts
  pub counted : length (named_by parts) ≡ count
  pub once : AreOnceBelow page_count (pages_of parts ++ named_by parts)

-- Each page from 1 to below the page count is one of three: it is in use, or a page of the list, or
-- the list names it.
abbrev pub IsPartition : ℕ → List ℕ → List Part → Type 0
IsPartition page_count in_use parts =
    (page : ℕ) → times_in page (in_use ++ (pages_of parts ++ named_by parts))
    ≡ room_for page_count page

-- ---- writing

-- how many pages of its own a list has that names so many
abbrev pub list_pages : ℕ → ℕ
list_pages count = (count + 1018) / 1019

-- a list on these pages that names these: each page but the last names 1,019
abbrev pub written : List ℕ → List ℕ → List Part
written [] named = []
written (page ∷ pages) named =
    record { page = page; named = take 1019 named } ∷ written pages (drop 1019 named)

-- ---- the book of a file with a list

-- the pages after these were found free
abbrev pub with_free : List ℕ → List PageState → List PageState
with_free [] pages = pages
with_free (page ∷ rest) pages = with_free rest (slice_set pages page states.Free)

-- The book of a file whose list names these: below its page count all others are in use, from there
-- to the limit all are free. Of page 0, which is never taken, it says what every opened book does.
abbrev pub opened_by : List ℕ → ℕ → ℕ → ℕ → Book
opened_by named page_count limit version = record {
  states = with_free (0 ∷ named)
      (replicate page_count states.InUse ++ replicate (limit - page_count) states.Free);
  waiting = [];
  turn = [];
  pins = [];
  version = version;
  failed_allocations = 0;
}
