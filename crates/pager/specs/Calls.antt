-- What the parts of a pager's calls do.
use Rattle.std.specs.Prelude.{◌≡◌, ◌≢◌, ◌⊎◌, ℕ, ◌<◌, Some, None, Result, Ok, IfOk, IfErr}
use Rattle.page.specs.Cache.{kept}
use Rattle.page.specs.Format.{PageModel}
use Rattle.page.specs.History.{History, KeepsWord, now, reads}
use Rattle.page.specs.Crash.{ReadsOnly}
use Rattle.page.specs.declared.page_cache.PageCache.{PageCache}
use Rattle.tree_model.specs.declared.pages.TreeFault.{TreeFault}
use Rattle.tree_model.specs.declared.pages.TreeFault.TheVariants as faults
use Rattle.freelist.specs.Book.{Book, Takes}
use Rattle.roots.specs.declared.opening.OpenFault.{OpenFault}
use Rattle.roots.specs.declared.opening.OpenFault.TheVariants as opens
use Rattle.roots.specs.declared.store.Store.{Store}
use Rattle.roots.specs.Image.{model_at}
use Rattle.roots.specs.Store.{CountsFailed, disk_history, durable_root, is_stopped}
use Rattle.pager.specs.Kept.{Agrees}

-- a store whose disk was only read
pub record OnlyRead {D : Type 0} (history : D → History) (old new : Store D) : Type 0 where
  pub root : durable_root new ≡ durable_root old
  pub stopped : is_stopped new ≡ is_stopped old
  pub reads : ReadsOnly (disk_history history old) (disk_history history new)
  pub noted : KeepsWord (disk_history history new) → CountsFailed history old new

-- what is kept was kept before, or is this page
abbrev pub Keeps : ℕ → PageModel → PageCache → PageCache → Type 0
Keeps page model before after = (n : ℕ) (found : PageModel) → kept after n ≡ Some found
    → (kept before n ≡ Some found) ⊎ ((n ≡ page) × (found ≡ model))

-- a page that is none is told by its number
abbrev pub tree_fault : OpenFault → TreeFault
tree_fault opens.Device = faults.Device
tree_fault opens.Memory = faults.Memory
tree_fault opens.Damaged = faults.Number
tree_fault opens.NotADatabase = faults.Number
tree_fault opens.NewerFormat = faults.Number

-- A page that the disk holds wasn't read: the device failed, or memory ran out.
abbrev pub HasReadCause : History → History → TreeFault → Type 0
HasReadCause old new faults.Memory = Unit {0}
HasReadCause old new faults.Device = old.failures < new.failures
HasReadCause old new faults.Full = ⊥
HasReadCause old new faults.Kind = ⊥
HasReadCause old new faults.Number = ⊥
HasReadCause old new faults.Order = ⊥
HasReadCause old new faults.Length = ⊥

-- The page of this number was read from the cache or from the disk.
pub record ReadsPage {D : Type 0} (history : D → History) (page : ℕ)
    (result : Result PageModel TreeFault) (old new : Store D) (before after : PageCache) : Type 0
  where
    pub only : OnlyRead history old new
    pub value : Agrees history old before → KeepsWord (disk_history history new)
        → let model = model_at (reads (now (disk_history history old))) (durable_root old) page in
        IfOk result (λ shared. model ≡ Ok shared)
    pub cause : KeepsWord (disk_history history new)
        → let model = model_at (reads (now (disk_history history old))) (durable_root old) page in
        (found : PageModel) → model ≡ Ok found
        → IfErr result (HasReadCause (disk_history history old) (disk_history history new))
    pub agrees : Agrees history old before → Agrees history new after
    pub others : (n : ℕ) (found : PageModel) → n ≢ page
        → kept after n ≡ Some found → kept before n ≡ Some found

-- A page was taken, or memory ran out, or none was free.
abbrev pub Refuses : TreeFault → Book → Book → Type 0
Refuses faults.Memory old new = new ≡ old
Refuses faults.Full old new = Takes None old new
Refuses faults.Device old new = ⊥
Refuses faults.Kind old new = ⊥
Refuses faults.Number old new = ⊥
Refuses faults.Order old new = ⊥
Refuses faults.Length old new = ⊥
