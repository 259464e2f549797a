-- What a walk over a tree's pages gives: those that it reaches, each once, in the order of its
-- keys.
use Rattle.std.specs.Global.{Vec}
use Rattle.std.specs.Prelude.{◌≡◌, ◌≢◌, ℕ, ◌+◌, ◌<◌, ◌≤◌, Bool, false, true, if◌then◌else◌, List}
use Rattle.std.specs.Prelude.{[], ◌++◌, length, get_or, max, Result, Ok, Err, IfErr, IfOk, OnOk}
use Rattle.std.specs.Prelude.{MatchResult}
use Rattle.page.specs.History.{History, KeepsWord, now, reads}
use Rattle.page.specs.Crash.{ReadsOnly}
use Rattle.page.specs.Content.{Content, leaf, branch, chain, free_list}
use Rattle.page.specs.Format.{PageModel}
use Rattle.page.specs.ImageView.{model_of}
use Rattle.page.specs.declared.page_fault.PageFault.{PageFault}
use Rattle.page.specs.declared.page_image.PageImage.{PageImage}
use Rattle.tree_model.specs.Keys.{Entry, times}
use Rattle.tree_model.specs.Store.{Store as Pages}
use Rattle.freelist.specs.Book.{Book, opened}
use Rattle.freelist.specs.FreeList.{IsFreeList, Part, pages_of}
use Rattle.freelist.specs.Sound.{IsSound}
use Rattle.roots.specs.HeldFile.{HoldsNoFile, Reaches as ReachesFile}
use Rattle.roots.specs.Image.{HasList, list_in, reached_by, model_at, store_of}
use Rattle.roots.specs.Store.{CountsFailed, IsCommitted, disk_history, durable_root, is_stopped}
use Rattle.roots.specs.declared.opening.OpenFault.{OpenFault}
use Rattle.roots.specs.declared.opening.OpenFault.TheVariants as faults
use Rattle.roots.specs.declared.root.Root.{Root}
use Rattle.roots.specs.declared.store.Store.{Store}
use Rattle.roots.specs.declared.reachable_pages.Reached.{Reached}

-- a failed read is counted; the other faults are that memory ran out, and that the pages are no
-- tree
abbrev pub HasCause : History → History → OpenFault → Type 0
HasCause old new faults.Device = KeepsWord new → old.failures < new.failures
HasCause old new faults.Memory = Unit {0}
HasCause old new faults.Damaged = Unit {0}
HasCause old new faults.NotADatabase = ⊥
HasCause old new faults.NewerFormat = ⊥

-- calls that only read, and a fault with its cause
pub record Looks {X : Type 0} (result : Result X OpenFault) (old new : History) : Type 0 where
  pub reads : ReadsOnly old new
  pub cause : IfErr result (HasCause old new)
  -- Nothing else is told where a read failed.
  pub clear : result ≢ Err faults.Device → KeepsWord new → new.failures ≡ old.failures

-- the pages that a file with this root has, as its reads give them
abbrev pub pages_in : History → Root → Pages
pages_in h root = store_of (model_at (reads (now h)) root)

abbrev pub pages_so_far : Reached → List ℕ
pages_so_far reached = reached.pages.items

-- of so many pages those that were reached are marked, each once
pub record IsMarked (limit : ℕ) (reached : Reached) : Type 0 where
  pub count : length reached.seen.items ≡ limit
  pub marks : (n : ℕ) → times n (pages_so_far reached)
      ≡ (if get_or reached.seen.items n false then 1 else 0)

-- pages that can be reached beside those so far
pub record CanReach (limit : ℕ) (reached : Reached) (pages : List ℕ) : Type 0 where
  pub marked : IsMarked limit reached
  pub apart : (n : ℕ) → times n (pages_so_far reached) + times n pages ≤ 1

-- these pages were reached, in order, or the fault isn't one of the pages
abbrev pub Reaches : {X : Type 0} → List ℕ → Reached → Reached → Result X OpenFault → Type 0
Reaches pages old new (Ok done) = pages_so_far new ≡ pages_so_far old ++ pages
Reaches pages old new (Err fault) = fault ≢ faults.Damaged

abbrev pub KeepsMarks : {X : Type 0} → Reached → Reached → Result X OpenFault → Type 0
KeepsMarks old new result = OnOk result ((limit : ℕ) → IsMarked limit old → IsMarked limit new)

-- ---- a page

-- Nothing of the store has changed, and this is the page that its disk holds, or it holds none.
pub record ReadsPageModel {D : Type 0} (history : D → History) (page : ℕ)
    (result : Result PageImage OpenFault) (old new : Store D) : Type 0 where
  pub root : durable_root new ≡ durable_root old
  pub stopped : is_stopped new ≡ is_stopped old
  pub committed : (live : List ℕ) (entries : List Entry) → IsCommitted history old live entries
      → IsCommitted history new live entries
  pub model : let image = reads (now (disk_history history old)) in
      let model = model_at image (durable_root old) page in
      KeepsWord (disk_history history new) → MatchResult result
      (λ image. model ≡ Ok (model_of image))
      (λ fault. fault ≡ faults.Damaged → (found : PageModel) → model ≡ Ok found → ⊥)
  pub noted : KeepsWord (disk_history history new) → CountsFailed history old new

-- a page of a tree, and not of a value's chain or of a list
abbrev pub is_of_tree : Content → Bool
is_of_tree (leaf items) = true
is_of_tree (branch pivots) = true
is_of_tree (chain next bytes) = false
is_of_tree (free_list next pages) = false

-- ---- the book of a file's pages

-- a book of so many pages in which no turn has begun, and nothing was pinned or waits
pub record IsNewBook (page_count : ℕ) (book : Book) : Type 0 where
  pub sound : IsSound book
  pub count : length book.states ≡ page_count
  pub turn : book.turn ≡ []
  pub waiting : book.waiting ≡ []
  pub pins : book.pins ≡ []
  pub failed_allocations : book.failed_allocations ≡ 0

-- The first are the pages that the root reaches, its list's own too; the second are these alone.
pub record HasReached (models : ℕ → Result PageModel PageFault) (root : Root)
    (found : Vec ℕ × Vec ℕ) : Type 0 where
  pub reaches : ReachesFile models root found.0.items
  pub listed : found.1.items ≡ pages_of reaches.parts

-- The pages that the root reaches were found, its list's own too. Damaged comes only where it has
-- no tree there, or names a list that is none or doesn't fit the tree.
abbrev pub FindsFile : {D : Type 0} → (D → History) → Result (Vec ℕ × Vec ℕ) OpenFault
    → Store D → Store D → Type 0
FindsFile history result old new =
    KeepsWord (disk_history history new) → let root = durable_root old in
    let models = model_at (reads (now (disk_history history old))) root in
    MatchResult result (HasReached models root)
    (λ fault. fault ≡ faults.Damaged → HoldsNoFile models root)

-- Nothing of the store has changed. Where a tree is committed, the pages that the root reaches are
-- in use, and the fault isn't one of the pages. The second of the result are the pages of the
-- root's list.
pub record FindsFree {D : Type 0} (history : D → History) (limit : ℕ)
    (result : Result (Book × Vec ℕ) OpenFault) (old new : Store D) : Type 0 where
  pub root : durable_root new ≡ durable_root old
  pub stopped : is_stopped new ≡ is_stopped old
  pub committed : (live : List ℕ) (entries : List Entry) → IsCommitted history old live entries
      → IsCommitted history new live entries
  pub noted : KeepsWord (disk_history history new) → CountsFailed history old new
  pub some : IfOk result (λ found. IsNewBook (max (max limit (durable_root old).pages) 1) found.0)
  pub listed : let root = durable_root old in
      let models = model_at (reads (now (disk_history history old))) root in
      KeepsWord (disk_history history new) → IfOk result (λ found. (parts : List Part)
      → IsFreeList (list_in models) root.pages root.free_list root.free_count parts
      → found.1.items ≡ pages_of parts)
  -- damaged is only what holds no file
  pub judged : let root = durable_root old in
      let models = model_at (reads (now (disk_history history old))) root in
      KeepsWord (disk_history history new)
      → IfErr result (λ fault. fault ≡ faults.Damaged → HoldsNoFile models root)
  pub book : KeepsWord (disk_history history new) → (live : List ℕ) (entries : List Entry)
      → IsCommitted history old live entries → let root = durable_root old in
      let image = reads (now (disk_history history old)) in
      MatchResult result (λ found. (parts : List Part)
      → HasList (model_at image root) root live parts
      → (found.0 ≡ opened (reached_by live parts) (max limit root.pages) root.generation)
      × (found.1.items ≡ pages_of parts))
      (λ fault. fault ≢ faults.Damaged)
