-- The list of free pages that a file holds, page by page.
use Rattle.std.specs.Prelude.{◌≡◌, ℕ, ◌<◌, ◌≤◌, ◌^◌, List, [], ◌∷◌, ◌++◌, length, Option}
use Rattle.std.specs.Prelude.{Result}
use Rattle.freelist.specs.Book.{Book}
use Rattle.freelist.specs.FreeList.{AreOnceBelow, HoldsList, ListContent, Part, first_page, written}
use Rattle.freelist.specs.ListLaws.{GivesBack}
use Rattle.freelist.specs.ListReading.{ReadsList}
use Rattle.freelist.specs.ListWriting.{IsMade, count_with}
use Rattle.freelist.specs.declared.list.FreeList.{FreeList}
use Rattle.freelist.specs.declared.list_fault.ListFault.{ListFault}
use Rattle.freelist.specs.declared.list_fault.ListFault.TheVariants as lists
use Rattle.page.specs.Content.{free_list}
use Rattle.page.specs.Crash.{HasRead, ReadsOnly}
use Rattle.page.specs.Format.{PageModel}
use Rattle.page.specs.History.{History, KeepsWord, now, reads}
use Rattle.roots.specs.Image.{listed_model, model_at}
use Rattle.roots.specs.Store.{CountsFailed, disk_history, durable_root, is_stopped}
use Rattle.roots.specs.Turn.{AreWritten}
use Rattle.roots.specs.declared.opening.OpenFault.{OpenFault}
use Rattle.roots.specs.declared.opening.OpenFault.TheVariants as opens
use Rattle.roots.specs.declared.root.Root.{Root}
use Rattle.roots.specs.declared.store.Store.{Store}

-- what each page of a file with this root is of a list
abbrev pub listed_in : (ℕ → List ℕ) → Root → ℕ → Option ListContent
listed_in image root page = listed_model (model_at image root page)

abbrev pub listed_by : {D : Type 0} → (D → History) → Store D → ℕ → Option ListContent
listed_by history store = listed_in (reads (now (disk_history history store))) (durable_root store)

-- the pages of these parts, as a commit of this generation writes them
abbrev pub list_models : ℕ → List Part → List PageModel
list_models generation [] = []
list_models generation (part ∷ rest) =
    record {
      page = part.page;
      generation = generation;
      content = free_list (first_page rest) part.named;
    } ∷ list_models generation rest

-- Where the pages of a list are written, below the page count of a root of their commit or a later
-- one, they hold the list.
abbrev pub WrittenListIsThere : Type 0
WrittenListIsThere = (image : ℕ → List ℕ) (root : Root) (generation : ℕ) (pages named : List ℕ)
    → 1 ≤ generation → generation ≤ root.generation → root.generation < 2 ^ 64
    → root.pages ≤ 1048576 → AreOnceBelow root.pages (pages ++ named)
    → AreWritten image (list_models generation (written pages named))
    → HoldsList (listed_in image root) (written pages named)

-- Where a root names a list that was made, and its pages are written, whoever reads it gets it
-- back.
abbrev pub WrittenListIsRead : Type 0
WrittenListIsRead = (image : ℕ → List ℕ) (root : Root) (page_count : ℕ) (pages named : List ℕ)
    (old new : Book) → IsMade page_count pages named old new → let parts = written pages named in
    1 ≤ root.generation → root.generation < 2 ^ 64 → root.pages ≤ 1048576
    → root.pages ≡ count_with page_count pages → root.free_list ≡ first_page parts
    → root.free_count ≡ length named → AreWritten image (list_models root.generation parts)
    → (result : Result FreeList ListFault)
    → ReadsList (listed_in image root) root.pages root.free_list root.free_count result
    → GivesBack pages named result

-- The store's disk was read, and nothing else.
pub record OnlyReads {D : Type 0} (history : D → History) (old new : Store D) : Type 0 where
  pub disk : ReadsOnly (disk_history history old) (disk_history history new)
  pub root : durable_root new ≡ durable_root old
  pub stopped : is_stopped new ≡ is_stopped old
  pub noted : KeepsWord (disk_history history new) → CountsFailed history old new

-- a call of the disk failed
abbrev pub HasFailed : {D : Type 0} → (D → History) → Store D → Store D → Type 0
HasFailed history old new =
    KeepsWord (disk_history history new) → KeepsWord (disk_history history old)
    × ((disk_history history old).failures < (disk_history history new).failures)

-- the disk was read, and no call of it failed
abbrev pub IsClear : {D : Type 0} → (D → History) → Store D → Store D → Type 0
IsClear history old new = HasRead (disk_history history old) (disk_history history new)

-- why a page of a list wasn't read
abbrev pub listed_fault : OpenFault → ListFault
listed_fault opens.Device = lists.Device
listed_fault opens.Memory = lists.Memory
listed_fault opens.NotADatabase = lists.Damaged
listed_fault opens.Damaged = lists.Damaged
listed_fault opens.NewerFormat = lists.Damaged

-- and the other way round
abbrev pub read_fault : ListFault → OpenFault
read_fault lists.Device = opens.Device
read_fault lists.Memory = opens.Memory
read_fault lists.Damaged = opens.Damaged
