-- What a search among a file's pages knows: where it begins, and which blocks it passes over.
use Rattle.std.specs.Prelude.{◌≡◌, ℕ, ◌+◌, ◌*◌, ◌^◌, ◌<◌, ◌≤◌, Bool, true, false, not, max}
use Rattle.std.specs.Prelude.{if◌then◌else◌, List, length, get_or, slice_set, ◌/◌, ◌==◌}
use Rattle.freelist.specs.Book.{is_free_state, is_used_state, IsStart}
use Rattle.freelist.specs.ListWriting.{is_unused, unused_below}
use Rattle.freelist.specs.declared.states.PageState.{PageState}
use Rattle.freelist.specs.declared.states.PageState.TheVariants as states
use Rattle.freelist.specs.declared.states.Sought.{Sought}
use Rattle.freelist.specs.declared.states.Sought.TheVariants as soughts

-- A page in this state is sought.
abbrev pub fits : Sought → PageState → Bool
fits soughts.Free state = is_free_state state
fits soughts.Unused state = not (is_used_state state)

-- None of the pages from this one to below that one is sought.
abbrev pub NoneFits : Sought → ℕ → ℕ → List PageState → Type 0
NoneFits sought from to pages =
    (k : ℕ) → from ≤ k → k < to → fits sought (get_or pages k states.InUse) ≡ false

-- In a block that is marked none of the 256 pages is sought.
pub record MarksHold (sought : Sought) (marks : List Bool) (pages : List PageState) : Type 0 where
  pub none : (block : ℕ) → get_or marks block false ≡ true
      → NoneFits sought (block * 256) (block * 256 + 256) pages
  pub whole : length marks * 256 ≤ length pages

-- A block of which all 256 pages were passed over is marked.
abbrev pub marks_passed : ℕ → ℕ → List Bool → List Bool
marks_passed block passed marks = if passed == 256 then slice_set marks block true else marks

-- A page's block isn't marked any more where the page is sought in its new state.
abbrev pub marks_after : Sought → ℕ → PageState → List Bool → List Bool
marks_after sought page state marks =
    if fits sought state then slice_set marks (page / 256) false else marks

-- The first sought page from that one on, or one past the limit where there is none.
pub record IsFirst (sought : Sought) (from page : ℕ) (pages : List PageState) : Type 0 where
  pub rises : from ≤ page
  pub within : page ≤ max from (length pages)
  pub passed : NoneFits sought from page pages
  pub fitting : page < length pages → fits sought (get_or pages page states.InUse) ≡ true

-- The next page that isn't in use, or the end where all before it are.
pub record IsNextUnused (from end page : ℕ) (pages : List PageState) : Type 0 where
  pub within : page ≤ end
  pub few : page < end → page < 2 ^ 32
  pub rises : page < end → from ≤ page
  pub unused : page < end → is_unused pages page ≡ true
  pub passed : from ≤ end → unused_below page pages ≡ unused_below from pages

-- What is known of the pages: where the next free one may be, and what the two marks of a block
-- say.
pub record IsSearch (start : ℕ) (full used : List Bool) (pages : List PageState) : Type 0 where
  pub starts : IsStart start pages
  pub full_blocks : MarksHold soughts.Free full pages
  pub used_blocks : MarksHold soughts.Unused used pages
