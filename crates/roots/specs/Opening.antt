-- What opening a disk gives.
use Rattle.std.specs.Prelude.{◌≡◌, ◌≢◌, ℕ, ◌<◌, List, Err}
use Rattle.page.specs.History.{History, KeepsWord, now, reads, IsImage}
use Rattle.page.specs.Crash.{ExtendsHistory, LeavesOnly, CrashLeaves, OnlySyncs, ReadsOnly}
use Rattle.tree_model.specs.Keys.{Entry}
use Rattle.roots.specs.Root.{IsKnown, root_of}
use Rattle.roots.specs.Image.{OpensAs, HoldsMap, StandsFor, model_at}
use Rattle.roots.specs.Store.{IsRunning, IsCommitted, disk_history, durable_root, failed_reads}
use Rattle.roots.specs.declared.opening.OpenFault.{OpenFault}
use Rattle.roots.specs.declared.opening.OpenFault.TheVariants as faults
use Rattle.roots.specs.declared.store.Store.{Store}

-- The disk was opened as this store, by reads and a sync alone.
pub record IsStoreOpened {D : Type 0} (history : D → History) (disk : D) (store : Store D) : Type
    0 where
  pub running : IsRunning store
  pub uncounted : failed_reads store ≡ 0
  pub extends : ExtendsHistory (history disk) (disk_history history store)
  pub only : OnlySyncs (history disk) (disk_history history store)
  pub known : IsKnown (durable_root store)
  -- no call of the disk failed
  pub clear : KeepsWord (disk_history history store)
      → (disk_history history store).failures ≡ (history disk).failures
  -- its root is the one that the disk's sectors give
  pub opens : KeepsWord (disk_history history store)
      → OpensAs (reads (now (history disk))) (durable_root store)
  pub synced : CrashLeaves (disk_history history store)
      (λ image. image ≡ reads (now (history disk)))
  -- Entries that this root has are committed, and from then on every image stands for these alone.
  pub committed : (live : List ℕ) (entries : List Entry)
      → (KeepsWord (disk_history history store) → let image = reads (now (history disk)) in
      HoldsMap (model_at image (durable_root store)) (durable_root store) live entries)
      → IsCommitted history store live entries
  pub alone : (entries : List Entry) → StandsFor (reads (now (history disk))) entries
      → CrashLeaves (disk_history history store) (λ image. StandsFor image entries)
  -- where reads give one of the images, those during the call and after it are among those before
  pub any_moment : IsImage (now (history disk)) (reads (now (history disk)))
      → LeavesOnly (history disk) (disk_history history store) (IsImage (now (history disk)))

-- The disk was handed back as it was, with this fault.
pub record IsStoreRefused {D : Type 0} (history : D → History) (disk back : D)
    (fault : OpenFault) : Type 0 where
  pub untouched : ReadsOnly (history disk) (history back)
  -- a fault of the bytes is that of the two root sectors
  pub judged : fault ≢ faults.Device → KeepsWord (history back)
      → root_of (reads (now (history disk)) 0) (reads (now (history disk)) 1) ≡ Err fault
  pub no_memory : fault ≢ faults.Memory
  pub device : fault ≡ faults.Device → KeepsWord (history back)
      → (history disk).failures < (history back).failures
  pub clear : fault ≢ faults.Device → KeepsWord (history back)
      → (history back).failures ≡ (history disk).failures
