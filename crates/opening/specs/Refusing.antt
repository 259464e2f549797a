-- A disk that is not opened.
use Rattle.std.specs.Prelude.{◌≡◌, ◌≢◌, ◌<◌, List, Err}
use Rattle.page.specs.History.{History, KeepsWord, now, reads, IsImage}
use Rattle.page.specs.Crash.{ExtendsHistory, LeavesOnly}
use Rattle.roots.specs.Root.{root_of}
use Rattle.roots.specs.declared.opening.OpenFault.{OpenFault}
use Rattle.roots.specs.declared.opening.OpenFault.TheVariants as faults
use Rattle.entry_model.specs.State.{Collection}
use Rattle.opening.specs.Holding.{HoldsCollections}

-- The disk was handed back with this fault.
pub record IsFileRefused {D : Type 0} (history : D → History) (disk back : D)
    (fault : OpenFault) : Type 0 where
  pub extends : ExtendsHistory (history disk) (history back)
  pub any_moment : IsImage (now (history disk)) (reads (now (history disk)))
      → LeavesOnly (history disk) (history back) (IsImage (now (history disk)))
  -- a fault of the bytes comes only where they hold no collections
  pub damaged : fault ≢ faults.Device → fault ≢ faults.Memory → KeepsWord (history back)
      → (collections : List Collection)
      → HoldsCollections (reads (now (history disk))) collections → ⊥
  pub foreign : fault ≡ faults.NotADatabase → KeepsWord (history back)
      → root_of (reads (now (history disk)) 0) (reads (now (history disk)) 1)
      ≡ Err faults.NotADatabase
  pub later : fault ≡ faults.NewerFormat → KeepsWord (history back)
      → root_of (reads (now (history disk)) 0) (reads (now (history disk)) 1)
      ≡ Err faults.NewerFormat
  pub device : fault ≡ faults.Device → KeepsWord (history back)
      → (history disk).failures < (history back).failures
  -- want of memory is told only where nothing failed
  pub memory : fault ≡ faults.Memory → KeepsWord (history back)
      → (history back).failures ≡ (history disk).failures
