-- What a file holds whose root may name a list of free pages beside its tree.
use Rattle.std.specs.Prelude.{◌≡◌, ◌≢◌, ℕ, ◌+◌, ◌≤◌, Bool, true, false, List, [], ◌++◌}
use Rattle.std.specs.Prelude.{Result, MatchResult}
use Rattle.page.specs.Format.{PageModel}
use Rattle.page.specs.History.{History, KeepsWord, now, reads}
use Rattle.page.specs.declared.page_fault.PageFault.{PageFault}
use Rattle.tree_model.specs.Keys.{Entry, times}
use Rattle.freelist.specs.Book.{opened}
use Rattle.freelist.specs.FreeList.{Part, named_by, opened_by}
use Rattle.freelist.specs.FreeList.{pages_of, room_for, times_in}
use Rattle.freelist.specs.ListReading.{AreAllBelow}
use Rattle.freelist.specs.declared.list.FreeList.{FreeList}
use Rattle.roots.specs.Image.{HasList, HoldsMap, IsOnPages, reached_by, model_at}
use Rattle.roots.specs.Root.{IsUnlisted}
use Rattle.roots.specs.Store.{disk_history, durable_root}
use Rattle.roots.specs.declared.opening.OpenFault.{OpenFault}
use Rattle.roots.specs.declared.opening.OpenFault.TheVariants as faults
use Rattle.roots.specs.declared.root.Root.{Root}
use Rattle.roots.specs.declared.store.Store.{Store}

-- The root's tree reaches these pages and has these entries, and these parts are the root's list.
pub record HoldsFile (models : ℕ → Result PageModel PageFault) (root : Root) (pages : List ℕ)
    (parts : List Part) (entries : List Entry) : Type 0 where
  pub tree : HoldsMap models root pages entries
  pub list : HasList models root pages parts

-- ---- laws

-- a root that names no list has the tree alone
abbrev pub NoListIsTree : Type 0
NoListIsTree = (models : ℕ → Result PageModel PageFault) (root : Root) → IsUnlisted root
    → (pages : List ℕ) (entries : List Entry) → HoldsMap models root pages entries
    → HoldsFile models root pages [] entries
    × ((parts : List Part) → HasList models root pages parts → parts ≡ [])

-- a root has one tree and one list at most
abbrev pub HoldsOneFile : Type 0
HoldsOneFile = (models : ℕ → Result PageModel PageFault) (root : Root) (pages others : List ℕ)
    (parts rest : List Part) (entries more : List Entry)
    → HoldsFile models root pages parts entries → HoldsFile models root others rest more
    → (pages ≡ others) × ((parts ≡ rest) × (entries ≡ more))

-- a list names just the pages of the file that the root doesn't reach, each once
abbrev pub NamesTheRest : Type 0
NamesTheRest = (models : ℕ → Result PageModel PageFault) (root : Root) (pages : List ℕ)
    (parts : List Part) (entries : List Entry) → HoldsFile models root pages parts entries
    → root.free_list ≢ 0 → (page : ℕ)
    → times page (reached_by pages parts) + times_in page (named_by parts)
    ≡ room_for root.pages page

-- so it tells the book that is opened with the pages that the root reaches
abbrev pub ListTellsBook : Type 0
ListTellsBook = (models : ℕ → Result PageModel PageFault) (root : Root) (pages : List ℕ)
    (parts : List Part) (entries : List Entry) → HoldsFile models root pages parts entries
    → root.free_list ≢ 0 → (limit version : ℕ) → root.pages ≤ limit
    → opened (reached_by pages parts) limit version
    ≡ opened_by (named_by parts) root.pages limit version

-- What the root's pages hold decides it all: an image with the same in them holds the same file.
abbrev pub ReachedDecides : Type 0
ReachedDecides = (image other : ℕ → List ℕ) (root : Root) (pages : List ℕ) (parts : List Part)
    (entries : List Entry) → HoldsFile (model_at image root) root pages parts entries
    → ((k : ℕ) → IsOnPages (reached_by pages parts) k → other k ≡ image k)
    → HoldsFile (model_at other root) root pages parts entries

-- ---- what is read

-- a list with these pages of its own that names these
pub record HasListOn (models : ℕ → Result PageModel PageFault) (root : Root) (tree : List ℕ)
    (pages named : List ℕ) : Type 0 where
  pub parts : List Part
  pub has : HasList models root tree parts
  pub pages_are : pages ≡ pages_of parts
  pub named_are : named ≡ named_by parts

-- whether the list that a root names, if it names one, fits the tree
abbrev pub FitsTree : Root → List ℕ → List ℕ → List ℕ → Bool → Type 0
FitsTree root tree pages named true =
    root.free_list ≢ 0 → AreAllBelow root.pages (tree ++ (pages ++ named))
FitsTree root tree pages named false =
    (root.free_list ≢ 0) × (AreAllBelow root.pages (tree ++ (pages ++ named)) → ⊥)

-- The root's list was read; it is damaged only where the root has none beside this tree.
abbrev pub ChecksList : (ℕ → Result PageModel PageFault) → Root → List ℕ
    → Result FreeList OpenFault → Type 0
ChecksList models root tree result =
    MatchResult result
    (λ list. HasListOn models root tree list.pages.items list.named.items)
    (λ fault. fault ≡ faults.Damaged → (parts : List Part) → HasList models root tree parts → ⊥)

-- what the root of a store's disk names there
abbrev pub ChecksStore : {D : Type 0} → (D → History) → List ℕ → Result FreeList OpenFault
    → Store D → Store D → Type 0
ChecksStore history tree result old new =
    KeepsWord (disk_history history new) → let root = durable_root old in
    ChecksList (model_at (reads (now (disk_history history old))) root) root tree result

-- a file of which these are the pages that its root reaches
pub record Reaches (models : ℕ → Result PageModel PageFault) (root : Root)
    (live : List ℕ) : Type 0 where
  pub pages : List ℕ
  pub parts : List Part
  pub entries : List Entry
  pub holds : HoldsFile models root pages parts entries
  pub are : live ≡ reached_by pages parts

-- these sheets are no file of this root
abbrev pub HoldsNoFile : (ℕ → Result PageModel PageFault) → Root → Type 0
HoldsNoFile models root =
    (pages : List ℕ) (parts : List Part) (entries : List Entry)
    → HoldsFile models root pages parts entries → ⊥
