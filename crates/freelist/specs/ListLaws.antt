-- Laws of the written list of free pages.
use Rattle.std.specs.Prelude.{◌≡◌, ℕ, ◌*◌, ◌<◌, ◌≤◌, nat_lt, List, [], ◌∷◌, ◌++◌, length, map}
use Rattle.std.specs.Prelude.{replicate, drop, ◌==◌, if◌then◌else◌, Option, Some, None, ◌≢◌, zero}
use Rattle.std.specs.Prelude.{suc, true, ◌&&◌, get_or, Result, MatchResult}
use Rattle.freelist.specs.Book.{Book, committed, first_free, is_free, is_in_use, least_free}
use Rattle.freelist.specs.Book.{opened, taken}
use Rattle.freelist.specs.FreeList.{AreOnceBelow, HoldsList, IsFreeList, IsPartition}
use Rattle.freelist.specs.FreeList.{ListContent, Part}
use Rattle.freelist.specs.FreeList.{first_page, list_pages, named_by, opened_by, pages_of}
use Rattle.freelist.specs.FreeList.{times_in, written}
use Rattle.freelist.specs.ListReading.{ReadsList}
use Rattle.freelist.specs.ListWriting.{IsMade, content_at, count_with}
use Rattle.freelist.specs.Sound.{IsSound}
use Rattle.freelist.specs.declared.list.FreeList.{FreeList}
use Rattle.freelist.specs.declared.list_fault.ListFault.{ListFault}
use Rattle.freelist.specs.declared.list_fault.ListFault.TheVariants as faults
use Rattle.freelist.specs.declared.states.PageState.{PageState}
use Rattle.freelist.specs.declared.states.PageState.TheVariants as states

-- Where pages hold a list that was written, this list is there, on these pages, and names these.
pub record IsRead (contents : ℕ → Option ListContent) (page_count : ℕ)
    (pages named : List ℕ) : Type 0 where
  pub list : IsFreeList contents page_count (first_page (written pages named)) (length named)
      (written pages named)
  pub pages_are : pages_of (written pages named) ≡ pages
  pub named_are : named_by (written pages named) ≡ named

abbrev pub WrittenIsRead : Type 0
WrittenIsRead = (contents : ℕ → Option ListContent) (page_count : ℕ) (pages named : List ℕ)
    → length named ≤ 1019 * length pages → AreOnceBelow page_count (pages ++ named)
    → HoldsList contents (written pages named) → IsRead contents page_count pages named

-- a list on as many pages as it needs finds room there
abbrev pub PagesSuffice : Type 0
PagesSuffice = (count : ℕ) → count ≤ 1019 * list_pages count

-- pages hold one list at most from a first page on
abbrev pub ReadingIsExact : Type 0
ReadingIsExact = (contents : ℕ → Option ListContent) (page_count first count other_count : ℕ)
    (parts others : List Part) → IsFreeList contents page_count first count parts
    → IsFreeList contents page_count first other_count others → parts ≡ others

-- Where each page is in use, of the list or named, a book that was opened with the first two in use
-- has the named ones free and no other page below the page count.
abbrev pub FreeIsComplement : Type 0
FreeIsComplement = (page_count limit version : ℕ) (in_use : List ℕ) (parts : List Part)
    → IsPartition page_count in_use parts → page_count ≤ limit
    → (page : ℕ) → page < page_count
    → is_free (opened (in_use ++ pages_of parts) limit version).states page
    ≡ nat_lt 0 (times_in page (named_by parts))

-- that book is the one that the list alone tells
abbrev pub BookOfPartition : Type 0
BookOfPartition = (page_count limit version : ℕ) (in_use : List ℕ) (parts : List Part)
    → IsPartition page_count in_use parts → page_count ≤ limit
    → opened (in_use ++ pages_of parts) limit version
    ≡ opened_by (named_by parts) page_count limit version

-- the book that a list tells is sound
abbrev pub ListedIsSound : Type 0
ListedIsSound = (named : List ℕ) (page_count limit version : ℕ)
    → IsSound (opened_by named page_count limit version)

-- ---- a list that was made

-- the pages in use below a page count, in ascending order
abbrev pub used_below : ℕ → List PageState → List ℕ
used_below zero pages = []
used_below (suc page) pages =
    used_below page pages ++ (if nat_lt 0 page && is_in_use pages page then page ∷ [] else [])

-- Each page of the file, with those of the list, was in use before, is the list's or named by it.
abbrev pub MadeIsPartition : Type 0
MadeIsPartition = (page_count : ℕ) (pages named : List ℕ) (old new : Book)
    → IsMade page_count pages named old new → let count = count_with page_count pages in
    count ≤ length old.states
    → IsPartition count (used_below count old.states) (written pages named)

-- The list was read, or the device failed, or there was no memory.
abbrev pub GivesBack : List ℕ → List ℕ → Result FreeList ListFault → Type 0
GivesBack pages named result =
    MatchResult result (λ list. (list.pages.items ≡ pages) × (list.named.items ≡ named))
    (λ fault. fault ≢ faults.Damaged)

-- Where each of its pages holds what it is to hold, whoever reads the list gets it back.
abbrev pub MadeIsRead : Type 0
MadeIsRead = (contents : ℕ → Option ListContent) (page_count : ℕ) (pages named : List ℕ)
    (old new : Book) → IsMade page_count pages named old new → let parts = written pages named in
    ((at : ℕ) → at < length pages → contents (get_or pages at 0) ≡ content_at parts at)
    → (result : Result FreeList ListFault)
    → ReadsList contents (count_with page_count pages) (first_page parts) (length named) result
    → GivesBack pages named result

-- making a list keeps a book sound
abbrev pub MadeStaysSound : Type 0
MadeStaysSound = (page_count : ℕ) (pages named : List ℕ) (old new : Book)
    → IsMade page_count pages named old new → IsSound old → IsSound new

-- What a turn leaves once its list was made and it is committed is the book that the list tells
-- whoever opens the file next, but for the count of takes that found no page: where nothing is
-- pinned, and each page in use lies from 1 to below the page count.
abbrev pub MadeTellsTheBook : Type 0
MadeTellsTheBook = (page_count version : ℕ) (pages named : List ℕ) (old new : Book)
    → IsMade page_count pages named old new → IsSound old → old.pins ≡ [] → old.waiting ≡ []
    → let count = count_with page_count pages in count ≤ length old.states
    → ((page : ℕ) → is_in_use old.states page ≡ true → (0 < page) × (page < count))
    → committed version new
    ≡ record (opened_by named count (length old.states) version)
    { failed_allocations = old.failed_allocations }

-- ---- worked rows

-- each page of a list with how many it names
abbrev pub sizes : List Part → List (ℕ × ℕ)
sizes parts = map (λ part. (part.page, length part.named)) parts

-- Pages 3 and 5 are a list that names 2 and 7. The second page names none.
abbrev pub row_parts : List Part
row_parts =
    record { page = 3; named = 2 ∷ 7 ∷ [] } ∷ record { page = 5; named = [] } ∷ []

abbrev pub row_contents : ℕ → Option ListContent
row_contents page =
    if page == 3 then Some (record { next = 5; named = 2 ∷ 7 ∷ [] }) else
    if page == 5 then Some (record { next = 0; named = [] }) else None

pub record ListRows : Type 0 where
  pub none : list_pages 0 ≡ 0
  pub one : list_pages 1 ≡ 1
  pub full : list_pages 1019 ≡ 1
  pub over : list_pages 1020 ≡ 2
  pub empty : written [] [] ≡ []
  pub fits : sizes (written (8 ∷ []) (replicate 1019 2)) ≡ (8, 1019) ∷ []
  pub needs_two : sizes (written (8 ∷ 4 ∷ []) (replicate 1020 2)) ≡ (8, 1019) ∷ (4, 1) ∷ []
  pub names_none : sizes (written (8 ∷ 4 ∷ []) (replicate 1019 2)) ≡ (8, 1019) ∷ (4, 0) ∷ []
  -- a file of nine pages, of which 1, 4, 6 and 8 are in use
  pub list : IsFreeList row_contents 9 3 2 row_parts
  pub partition : IsPartition 9 (1 ∷ 4 ∷ 6 ∷ 8 ∷ []) row_parts
  pub first_taken : least_free (opened_by (named_by row_parts) 9 16 1).states ≡ Some 2
  pub grows : first_free 8 (drop 8 (opened_by (named_by row_parts) 9 16 1).states) ≡ Some 9

-- the book of these pages, of which none waits
abbrev pub book_with : List PageState → Book
book_with pages = record {
  states = pages;
  waiting = [];
  turn = [];
  pins = [];
  version = 1;
  failed_allocations = 0;
}

-- Page 2 is free, and page 3 is retired.
abbrev pub mixed_row : Book
mixed_row = book_with (states.Free ∷ states.InUse ∷ states.Free ∷ states.Retired ∷ states.Free ∷ [])

-- No page below page 3 is free, and page 2 is retired.
abbrev pub grown_row : Book
grown_row = book_with (states.Free ∷ states.InUse ∷ states.Retired ∷ states.Free ∷ [])

pub record MadeRows : Type 0 where
  pub nothing : IsMade 2 [] [] grown_row grown_row
  pub below : IsMade 4 (2 ∷ []) (3 ∷ []) mixed_row (taken 2 mixed_row)
  pub behind : IsMade 3 (3 ∷ []) (2 ∷ []) grown_row (taken 3 grown_row)
  pub grows : count_with 3 (3 ∷ []) ≡ 4
  -- the only page that isn't in use is the list's, which names none then
  pub alone : IsMade 3 (2 ∷ []) [] mixed_row (taken 2 mixed_row)
