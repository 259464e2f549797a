-- What a store keeps on its disk.
use Rattle.std.specs.Prelude.{◌≡◌, ◌⊎◌, ℕ, ◌+◌, ◌<◌, ◌≤◌, max, min, Bool, List, true, false}
use Rattle.page.specs.History.{History, KeepsWord, now, reads}
use Rattle.page.specs.Crash.{IsDurable}
use Rattle.tree_model.specs.Keys.{Entry}
use Rattle.freelist.specs.FreeList.{Part}
use Rattle.roots.specs.Image.{HasList, HoldsMap, IsKept, OpensAs, reached_by, model_at}
use Rattle.roots.specs.declared.opening.OpenFault.{OpenFault}
use Rattle.roots.specs.declared.opening.OpenFault.TheVariants as faults
use Rattle.roots.specs.declared.root.Root.{Root}
use Rattle.roots.specs.declared.store.Config.{Config}
use Rattle.roots.specs.declared.store.Store.{Store}

-- what a configuration asks for: from 16 to 1,048,576 pages
abbrev pub limit_in : Config → ℕ
limit_in config = min (max 16 config.max_pages) 1048576

-- each moment of the store's disk so far
abbrev pub disk_history : {D : Type 0} → (D → History) → Store D → History
disk_history history store = history store.disk

-- the root that it committed last, or found
abbrev pub durable_root : {D : Type 0} → Store D → Root
durable_root store = store.root

-- a write or a sync of the store's has failed
abbrev pub is_stopped : {D : Type 0} → Store D → Bool
is_stopped store = store.stopped

-- how often a read of its disk has failed
abbrev pub failed_reads : {D : Type 0} → Store D → ℕ
failed_reads store = store.failed_reads

abbrev pub IsRunning : {D : Type 0} → Store D → Type 0
IsRunning store = is_stopped store ≡ false

-- While the disk keeps its word: its root is this one, whose tree reaches these pages and has these
-- entries, and a crash leaves what the roots, these pages and those of the root's list hold.
pub record Keeps (h : History) (root : Root) (live : List ℕ) (entries : List Entry) : Type 0 where
  pub opens : KeepsWord h → OpensAs (reads (now h)) root
  pub holds : KeepsWord h → HoldsMap (model_at (reads (now h)) root) root live entries
  pub durable : KeepsWord h → (parts : List Part)
      → HasList (model_at (reads (now h)) root) root live parts
      → (k : ℕ) → IsKept (reached_by live parts) k → IsDurable (now h k)

-- These entries are committed, and these pages live.
pub record IsCommitted {D : Type 0} (history : D → History) (store : Store D) (live : List ℕ)
    (entries : List Entry) : Type 0 where
  pub running : IsRunning store
  pub keeps : Keeps (disk_history history store) (durable_root store) live entries

-- Why a commit from old to new met a failed device: a write or a sync had failed before, or failed
-- in the call.
abbrev pub HasDeviceCause : {D : Type 0} → (D → History) → Store D → Store D → Type 0
HasDeviceCause history old new =
    (is_stopped old ≡ true)
    ⊎ ((disk_history history old).failed_writes < (disk_history history new).failed_writes)

-- the count behind a fault: one more where the device failed, as far as a u64 counts
abbrev pub CountsFault : OpenFault → ℕ → ℕ → Type 0
CountsFault faults.Device old new =
    (new ≡ old + 1) ⊎ ((new ≡ old) × (new ≡ 18446744073709551615))
CountsFault faults.Memory old new = new ≡ old
CountsFault faults.NotADatabase old new = new ≡ old
CountsFault faults.Damaged old new = new ≡ old
CountsFault faults.NewerFormat old new = new ≡ old

-- Each read that fails is counted, as far as a u64 counts: the count rises where one failed, and
-- no faster than the device fails.
pub record CountsFailed {D : Type 0} (history : D → History) (old new : Store D) : Type 0 where
  pub rises : failed_reads old ≤ failed_reads new
  pub paced : failed_reads new + (disk_history history old).failures
      ≤ failed_reads old + (disk_history history new).failures
  pub counted : (disk_history history old).failures < (disk_history history new).failures
      → (failed_reads old < failed_reads new) ⊎ (failed_reads new ≡ 18446744073709551615)
