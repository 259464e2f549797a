-- What holds of every pager: its cache agrees with its disk, and its turn with its book.
use Rattle.std.specs.Prelude.{◌≡◌, ℕ, ◌+◌, ◌<◌, ◌≤◌, ◌^◌, List, length, map, Some, None}
use Rattle.std.specs.Prelude.{Ok, max}
use Rattle.std.specs.List.{AllByRecursion}
use Rattle.page.specs.Cache.{kept}
use Rattle.page.specs.Format.{PageModel}
use Rattle.page.specs.History.{History, KeepsWord, now, reads}
use Rattle.page.specs.declared.page_cache.PageCache.{PageCache}
use Rattle.freelist.specs.Book.{Book}
use Rattle.freelist.specs.FreeList.{IsFreeList, Part, pages_of}
use Rattle.freelist.specs.Sound.{IsSound}
use Rattle.freelist.specs.declared.turns.Change.{Change}
use Rattle.freelist.specs.declared.turns.Change.TheVariants as changes
use Rattle.roots.specs.declared.store.Store.{Store}
use Rattle.roots.specs.Image.{list_in, model_at}
use Rattle.roots.specs.Store.{IsRunning, disk_history, durable_root}
use Rattle.pager.specs.Order.{IsOrderOf}

-- while the disk keeps its word, each page in the cache is the one on the disk
abbrev pub Agrees : {D : Type 0} → (D → History) → Store D → PageCache → Type 0
Agrees history store cache =
    KeepsWord (disk_history history store) → (n : ℕ) (model : PageModel) → kept cache n ≡ Some model
    → model_at (reads (now (disk_history history store))) (durable_root store) n ≡ Ok model

-- A page that the turn made. It isn't in the cache.
pub record IsNew (generation : ℕ) (cache : PageCache) (model : PageModel) : Type 0 where
  pub inside : model.page < 1048576
  pub some : 1 ≤ model.generation
  pub small : model.generation < 2 ^ 64
  pub until : model.generation ≤ generation + 1
  pub uncached : kept cache model.page ≡ None

-- in the book the turn took these pages, and retired none
abbrev pub takes_of : List PageModel → List Change
takes_of made = map (λ model. changes.Taken model.page) made

-- The book has just the turn's takes.
pub record IsBookFor (made : List PageModel) (book : Book) : Type 0 where
  pub sound : IsSound book
  pub turn : book.turn ≡ takes_of made
  pub limit : length book.states ≤ 1048576
  pub count : book.failed_allocations < 2 ^ 64

-- These are the own pages of the list that the committed root names, if it names one. A stopped
-- store may have written over them.
abbrev pub AreListed : {D : Type 0} → (D → History) → Store D → List ℕ → Type 0
AreListed history store listed =
    IsRunning store → KeepsWord (disk_history history store) → let root = durable_root store in
    let models = model_at (reads (now (disk_history history store))) root in
    (parts : List Part)
    → IsFreeList (list_in models) root.pages root.free_list root.free_count parts
    → listed ≡ pages_of parts

pub record IsKept {D : Type 0} (history : D → History) (store : Store D) (cache : PageCache)
    (made : List PageModel) (book : Book) (list_pages : List ℕ) (places : List ℕ) : Type 0 where
  pub cached : Agrees history store cache
  pub order : IsOrderOf made places
  pub each : AllByRecursion (IsNew (durable_root store).generation cache) made
  pub booked : IsBookFor made book
  pub listed : AreListed history store list_pages
  -- the book has each page of the file
  pub wide : max (durable_root store).pages 1 ≤ length book.states
