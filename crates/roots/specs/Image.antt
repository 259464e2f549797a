-- What an image of the disk stands for: the entries of the tree whose root page its root names.
use Rattle.std.specs.Prelude.{◌≡◌, ◌≢◌, ◌⊎◌, ℕ, ◌<◌, ◌&&◌, nat_lt, if◌then◌else◌, List, [], ◌∷◌}
use Rattle.std.specs.Prelude.{◌++◌, Option, Some, None, Result, Ok, Err, is_ok}
use Rattle.page.specs.Content.{Content, leaf, branch, chain, free_list}
use Rattle.page.specs.Format.{PageModel, model_in}
use Rattle.page.specs.Page.{page_at, IsSectorOf}
use Rattle.page.specs.declared.page_fault.PageFault.{PageFault}
use Rattle.page.specs.declared.page_fault.PageFault.TheVariants as faults
use Rattle.tree_model.specs.Keys.{Entry}
use Rattle.tree_model.specs.Store.{Store, no_device}
use Rattle.tree_model.specs.Reach.{HasMap, AreOnce}
use Rattle.freelist.specs.FreeList.{IsFreeList, IsPartition, ListContent, Part, pages_of}
use Rattle.roots.specs.Root.{root_of}
use Rattle.roots.specs.declared.root.Root.{Root}

-- the page of this number in a file with this root: one from 1 to below the number of its pages
abbrev pub model_at : (ℕ → List ℕ) → Root → ℕ → Result PageModel PageFault
model_at image root page =
    if nat_lt 0 page && nat_lt page root.pages
    then model_in page root.generation (page_at image page) else Err faults.Number

abbrev pub content_in : Result PageModel PageFault → Content
content_in (Ok model) = model.content
content_in (Err fault) = chain 0 []

-- pages as the definitions of a tree see them: what can be read is there
abbrev pub store_of : (ℕ → Result PageModel PageFault) → Store
store_of models = record {
  history = no_device;
  base = [];
  page = λ n. content_in (models n);
  live = λ n. is_ok (models n);
  made = [];
  retired = [];
  failed_allocations = 0;
  failed_reads = 0;
}

-- ---- the list of free pages

-- What a page is of a list: the page that goes on, and the pages that it names. A page of another
-- kind is none.
abbrev pub listed : Content → Option ListContent
listed (leaf items) = None
listed (branch pivots) = None
listed (chain next bytes) = None
listed (free_list next pages) = Some (record { next = next; named = pages })

abbrev pub listed_model : Result PageModel PageFault → Option ListContent
listed_model (Ok model) = listed model.content
listed_model (Err fault) = None

-- what each of these pages is of a list
abbrev pub list_in : (ℕ → Result PageModel PageFault) → ℕ → Option ListContent
list_in models page = listed_model (models page)

-- The list that a root names in these pages, where its tree reaches these. First page 0 is no list:
-- which pages are free, such a file doesn't tell. A list has each page of the file that the tree
-- doesn't reach: it is the list's own, or the list names it.
pub record HasList (models : ℕ → Result PageModel PageFault) (root : Root) (pages : List ℕ)
    (parts : List Part) : Type 0 where
  pub list : IsFreeList (list_in models) root.pages root.free_list root.free_count parts
  pub all : root.free_list ≢ 0 → IsPartition root.pages pages parts

-- the pages that a root reaches: those of its tree, then the list's own
abbrev pub reached_by : List ℕ → List Part → List ℕ
reached_by pages parts = pages ++ pages_of parts

-- ---- a file

-- The root's tree in these pages reaches these, each once, and has these entries. Tree 0 is empty.
pub record HoldsTree (models : ℕ → Result PageModel PageFault) (root : Root) (pages : List ℕ)
    (entries : List Entry) : Type 0 where
  pub map : HasMap (store_of models) root.tree pages entries
  pub once : AreOnce pages

-- The same, and the list of free pages that the root names, if it names one, fits the tree.
pub record HoldsMap (models : ℕ → Result PageModel PageFault) (root : Root) (pages : List ℕ)
    (entries : List Entry) : Type 0 where
  pub map : HasMap (store_of models) root.tree pages entries
  pub once : AreOnce pages
  pub listed : (parts : List Part) × HasList models root pages parts

-- the root sectors of the image give this root
abbrev pub OpensAs : (ℕ → List ℕ) → Root → Type 0
OpensAs image root = root_of (image 0) (image 1) ≡ Ok root

-- The image stands for these entries.
pub record StandsFor (image : ℕ → List ℕ) (entries : List Entry) : Type 0 where
  pub root : Root
  pub pages : List ℕ
  pub opens : OpensAs image root
  pub holds : HoldsMap (model_at image root) root pages entries

-- one of these pages has this sector
abbrev pub IsOnPages : List ℕ → ℕ → Type 0
IsOnPages [] k = ⊥
IsOnPages (page ∷ pages) k = IsSectorOf page k ⊎ IsOnPages pages k

-- a sector that a root with these pages reaches: that of a root, or one of a page
abbrev pub IsKept : List ℕ → ℕ → Type 0
IsKept pages k = (k < 2) ⊎ IsOnPages pages k
