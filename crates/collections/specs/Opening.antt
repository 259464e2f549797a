-- What opening a disk gives.
use Rattle.std.specs.Prelude.{◌≡◌, ◌≢◌, ℕ, ◌<◌, false, List, [], Err}
use Rattle.page.specs.History.{History, KeepsWord, IsImage, now, reads}
use Rattle.page.specs.Crash.{ExtendsHistory, CrashLeaves, LeavesOnly}
use Rattle.roots.specs.Root.{root_of}
use Rattle.roots.specs.declared.opening.OpenFault.{OpenFault}
use Rattle.roots.specs.declared.opening.OpenFault.TheVariants as faults
use Rattle.pager.specs.Opening as pagers
use Rattle.entry_model.specs.State.{Collection}
use Rattle.collections.specs.State.{State}
use Rattle.collections.specs.Holding.{HoldsState}
use Rattle.collections.specs.Standing.{HasState}
use Rattle.collections.specs.Versions.{pins_of}
use Rattle.collections.specs.View.{disk_history, is_changed, is_stopped, pages_of}

-- The disk was opened, by reads and a sync alone.
pub record AreCollectionsOpened {D : Type 0} (history : D → History) (disk : D)
    (c : State D) : Type 0 where
  pub running : is_stopped c ≡ false
  pub clean : is_changed c ≡ false
  pub pins : pins_of c ≡ []
  -- both counts begin at nothing: pages asked for in vain, and reads that failed
  pub no_failed_allocations : (pages_of history c).failed_allocations ≡ 0
  pub no_failed_reads : KeepsWord (disk_history history c) → (pages_of history c).failed_reads ≡ 0
  pub extends : ExtendsHistory (history disk) (disk_history history c)
  -- a turn begins with what was read
  pub begun : (collections : List Collection)
      → (KeepsWord (disk_history history c) → HoldsState (reads (now (history disk))) collections)
      → HasState history c collections collections
  -- and from then on every image holds that alone
  pub alone : (collections : List Collection) → HoldsState (reads (now (history disk))) collections
      → CrashLeaves (disk_history history c) (λ image. HoldsState image collections)
  -- where reads give one of the images, those during the call and after it are among those from
  -- before
  pub any_moment : IsImage (now (history disk)) (reads (now (history disk)))
      → LeavesOnly (history disk) (disk_history history c) (IsImage (now (history disk)))

-- The file may have so many pages: as many as were asked for, 1,048,576 at most, or those that it
-- has.
abbrev pub HasLimit : {D : Type 0} → ℕ → State D → Type 0
HasLimit limit c = pagers.HasLimit limit c.pager

-- The disk was handed back with this fault.
pub record AreCollectionsRefused {D : Type 0} (history : D → History) (disk back : D)
    (fault : OpenFault) : Type 0 where
  pub extends : ExtendsHistory (history disk) (history back)
  pub any_moment : IsImage (now (history disk)) (reads (now (history disk)))
      → LeavesOnly (history disk) (history back) (IsImage (now (history disk)))
  -- a fault of the bytes comes only where they hold no collections
  pub damaged : fault ≢ faults.Device → fault ≢ faults.Memory → KeepsWord (history back)
      → (collections : List Collection) → HoldsState (reads (now (history disk))) collections → ⊥
  pub foreign : fault ≡ faults.NotADatabase → KeepsWord (history back)
      → root_of (reads (now (history disk)) 0) (reads (now (history disk)) 1)
      ≡ Err faults.NotADatabase
  pub later : fault ≡ faults.NewerFormat → KeepsWord (history back)
      → root_of (reads (now (history disk)) 0) (reads (now (history disk)) 1)
      ≡ Err faults.NewerFormat
  pub device : fault ≡ faults.Device → KeepsWord (history back)
      → (history disk).failures < (history back).failures
  -- want of memory is told only where nothing failed
  pub memory : fault ≡ faults.Memory → KeepsWord (history back)
      → (history back).failures ≡ (history disk).failures
