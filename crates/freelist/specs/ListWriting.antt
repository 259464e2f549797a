-- Writing a book's list of free pages: the pages that it takes for itself, and those that it names.
-- It names what waits too: the list is for whoever opens the file next, when no version is pinned.
use Rattle.std.specs.Prelude.{◌≡◌, ℕ, ◌+◌, ◌*◌, ◌/◌, ◌<◌, ◌≤◌, zero, suc, Bool, not, ◌&&◌, nat_lt}
use Rattle.std.specs.Prelude.{max, if◌then◌else◌, List, [], ◌∷◌, ◌++◌, length, get_or, Option, Some}
use Rattle.std.specs.Prelude.{None, false}
use Rattle.freelist.specs.Book.{Book, is_used_state, least_free, refused, taken, undone}
use Rattle.freelist.specs.FreeList.{ListContent, Part, first_page, list_pages}
use Rattle.freelist.specs.declared.draft.Draft.{Draft}
use Rattle.freelist.specs.declared.list.FreeList.{FreeList}
use Rattle.freelist.specs.declared.states.PageState.{PageState}
use Rattle.freelist.specs.declared.states.PageState.TheVariants as states

-- ---- the pages that a list names

-- a page from 1 to below the limit that isn't in use: it is free, or waits
abbrev pub is_unused : List PageState → ℕ → Bool
is_unused pages page = nat_lt 0 page && not (is_used_state (get_or pages page states.InUse))

-- those below a page count, in ascending order
abbrev pub unused_below : ℕ → List PageState → List ℕ
unused_below zero pages = []
unused_below (suc page) pages =
    unused_below page pages ++ (if is_unused pages page then page ∷ [] else [])

-- ---- the pages of a list's own

-- these were taken one after the other, each the least free page
abbrev pub TakesAll : List ℕ → Book → Book → Type 0
TakesAll [] old new = new ≡ old
TakesAll (page ∷ pages) old new =
    (least_free old.states ≡ Some page) × TakesAll pages (taken page old) new

-- how many pages a file has that had so many, and now these too
abbrev pub count_with : ℕ → List ℕ → ℕ
count_with page_count [] = page_count
count_with page_count (page ∷ pages) = count_with (max page_count (page + 1)) pages

-- ---- writing

-- A list was made for a file of so many pages: it took these for itself, and names each other one
-- of the file that isn't in use.
pub record IsMade (page_count : ℕ) (pages named : List ℕ) (old new : Book) : Type 0 where
  pub takes : TakesAll pages old new
  pub names : named ≡ unused_below (count_with page_count pages) new.states
  -- it has room for them, and no page more than it needs
  pub room : length named ≤ 1019 * length pages
  pub few : length pages ≤ length named / 1019 + 1
  pub none : unused_below page_count old.states ≡ [] → pages ≡ []

-- After all free pages were taken for a list there would still be too little room on it.
pub record HasNoRoom (page_count : ℕ) (old : Book) : Type 0 where
  pub pages : List ℕ
  pub last : Book
  pub takes : TakesAll pages old last
  pub none_free : least_free last.states ≡ None
  pub short : 1019 * length pages
      < length (unused_below (count_with page_count pages) last.states)

-- A list was made, or no page was free for it, which is counted.
abbrev pub WritesList : ℕ → Option FreeList → Book → Book → Type 0
WritesList page_count (Some list) old new =
    IsMade page_count list.pages.items list.named.items old new
WritesList page_count None old new = HasNoRoom page_count old × (new ≡ refused old)

-- ---- what each page of a list holds

-- what the page at this place of a list holds
abbrev pub content_at : List Part → ℕ → Option ListContent
content_at [] at = None
content_at (part ∷ rest) zero = Some (record { next = first_page rest; named = part.named })
content_at (part ∷ rest) (suc at) = content_at rest at

-- ---- what serves the prover alone

-- the draft counts the pages that aren't in use
abbrev pub Counts : Draft → List PageState → Type 0
Counts draft pages = draft.unused ≡ length (unused_below draft.page_count pages)

abbrev pub needs_more : Draft → Bool
needs_more draft = nat_lt (length draft.pages.items) (list_pages draft.unused)

-- these pages were taken for a list, and no more than it needs
pub record IsDraft (page_count : ℕ) (draft : Draft) (old new : Book) : Type 0 where
  pub takes : TakesAll draft.pages.items old new
  pub ends : draft.page_count ≡ count_with page_count draft.pages.items
  pub counts : Counts draft new.states
  pub few : length draft.pages.items ≤ draft.unused / 1019 + 1
  pub none : unused_below page_count old.states ≡ [] → draft.pages.items ≡ []

-- undoing all since the first leads from the last to this one
abbrev pub GoesBack : Book → Book → Book → Type 0
GoesBack first back last = undone (length first.turn) last ≡ back

-- no page was free for a list
abbrev pub FindsNone : ℕ → Book → Book → Type 0
FindsNone page_count old new = HasNoRoom page_count old × GoesBack old (refused old) new

abbrev pub FindsRoom : ℕ → Option Draft → Book → Book → Type 0
FindsRoom page_count (Some draft) old new =
    IsDraft page_count draft old new × (needs_more draft ≡ false)
FindsRoom page_count None old new = FindsNone page_count old new

abbrev pub DraftsList : ℕ → Option FreeList → Book → Book → Type 0
DraftsList page_count (Some list) old new =
    IsMade page_count list.pages.items list.named.items old new
DraftsList page_count None old new = FindsNone page_count old new
