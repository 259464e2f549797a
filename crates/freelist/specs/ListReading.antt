-- What reading a list of free pages gives.
use Rattle.std.specs.Prelude.{◌≡◌, ◌≢◌, ℕ, ◌+◌, ◌≤◌, Bool, true, false, if◌then◌else◌}
use Rattle.std.specs.Prelude.{List, [], ◌∷◌, ◌++◌, get_or, not, Option, Some, Result, Ok, Err}
use Rattle.std.specs.Prelude.{MatchResult}
use Rattle.std.specs.List.{list_any}
use Rattle.freelist.specs.FreeList.{IsFreeList, ListContent, Part, named_by, pages_of, room_for}
use Rattle.freelist.specs.FreeList.{times_in}
use Rattle.freelist.specs.declared.list.FreeList.{FreeList}
use Rattle.freelist.specs.declared.list.ListPage.{ListPage}
use Rattle.freelist.specs.declared.list.Reading.{Reading}
use Rattle.freelist.specs.declared.list_fault.ListFault.{ListFault}
use Rattle.freelist.specs.declared.list_fault.ListFault.TheVariants as faults

-- what a page that was read holds
abbrev pub content_of : ListPage → ListContent
content_of page = record { next = page.next; named = page.named.items }

-- The page holds what was read; it is damaged only where it holds no part of a list.
abbrev pub ReadsPart : (ℕ → Option ListContent) → ℕ → Result ListPage ListFault → Type 0
ReadsPart contents page result =
    MatchResult result (λ found. contents page ≡ Some (content_of found))
    (λ fault. fault ≡ faults.Damaged → (content : ListContent) → contents page ≡ Some content → ⊥)

-- a list with these pages of its own that names these is there
pub record IsListOn (contents : ℕ → Option ListContent) (page_count first count : ℕ)
    (pages named : List ℕ) : Type 0 where
  pub parts : List Part
  pub list : IsFreeList contents page_count first count parts
  pub pages_are : pages ≡ pages_of parts
  pub named_are : named ≡ named_by parts

-- The list that is there was read; the pages are damaged only where there is none.
abbrev pub ReadsList : (ℕ → Option ListContent) → ℕ → ℕ → ℕ → Result FreeList ListFault → Type 0
ReadsList contents page_count first count result =
    MatchResult result
    (λ list. IsListOn contents page_count first count list.pages.items list.named.items)
    (λ fault. fault ≡ faults.Damaged → (parts : List Part)
    → IsFreeList contents page_count first count parts → ⊥)

-- just the pages from 1 to below the page count stand there, each once
abbrev pub AreAllBelow : ℕ → List ℕ → Type 0
AreAllBelow page_count pages = (page : ℕ) → times_in page pages ≡ room_for page_count page

-- whether that is so
abbrev pub TellsAll : ℕ → List ℕ → Bool → Type 0
TellsAll page_count pages true = AreAllBelow page_count pages
TellsAll page_count pages false = AreAllBelow page_count pages → ⊥

-- ---- what serves the prover alone

-- 1 for a page of the file that isn't marked, 0 for any other
abbrev pub free_in : List Bool → ℕ → ℕ
free_in seen page = if get_or seen page true then 0 else 1

-- how many pages aren't marked
abbrev pub unmarked : List Bool → ℕ
unmarked [] = 0
unmarked (seen ∷ rest) = (if seen then 0 else 1) + unmarked rest

abbrev pub has_unmarked : List Bool → Bool
has_unmarked seen = list_any not seen

-- these pages were marked, or one of them was marked before
abbrev pub Marks : Bool → List ℕ → List Bool → List Bool → Type 0
Marks true pages old new = (n : ℕ) → times_in n pages + free_in new n ≡ free_in old n
Marks false pages old new = ((n : ℕ) → times_in n pages ≤ free_in old n) → ⊥

-- nothing was read, and all pages of the file but page 0 aren't marked
pub record Begins (page_count : ℕ) (reading : Reading) : Type 0 where
  pub pages : reading.list.pages.items ≡ []
  pub named : reading.list.named.items ≡ []
  pub marks : (n : ℕ) → free_in reading.seen.items n ≡ room_for page_count n

-- These pages of the list's own and these that it names were noted, or one of them was noted before
-- or isn't the file's.
abbrev pub Notes : List ℕ → List ℕ → Reading → Reading → Result (Unit {0}) ListFault → Type 0
Notes pages named old new (Ok done) =
    (new.list.pages.items ≡ old.list.pages.items ++ pages)
    × ((new.list.named.items ≡ old.list.named.items ++ named)
    × ((n : ℕ) → (times_in n pages + times_in n named) + free_in new.seen.items n
    ≡ free_in old.seen.items n))
Notes pages named old new (Err fault) =
    (fault ≢ faults.Device)
    × (fault ≡ faults.Damaged
    → ((n : ℕ) → times_in n pages + times_in n named ≤ free_in old.seen.items n) → ⊥)

-- A page of the list was read and noted, with what it names.
pub record IsStep (contents : ℕ → Option ListContent) (page : ℕ) (old new : Reading)
    (next : ℕ) : Type 0 where
  pub named : List ℕ
  pub holds : contents page ≡ Some (record { next = next; named = named })
  pub notes : Notes (page ∷ []) named old new (Ok tt)

-- The page was read and noted; it is damaged only where it holds no part of the list, or something
-- of this part was noted before or isn't the file's.
abbrev pub StepsOn : (ℕ → Option ListContent) → ℕ → Reading → Reading → Result ℕ ListFault
    → Type 0
StepsOn contents page old new (Ok next) = IsStep contents page old new next
StepsOn contents page old new (Err fault) =
    fault ≡ faults.Damaged → (content : ListContent) → contents page ≡ Some content
    → ((n : ℕ) → times_in n (page ∷ []) + times_in n content.named ≤ free_in old.seen.items n) → ⊥
