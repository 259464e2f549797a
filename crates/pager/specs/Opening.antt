-- What opening a pager gives.
use Rattle.std.specs.Prelude.{◌≡◌, ◌≢◌, ℕ, ◌<◌, max, min, List, [], length, Err}
use Rattle.page.specs.History.{History, KeepsWord, IsImage, now, reads}
use Rattle.page.specs.Crash.{ExtendsHistory, CrashLeaves, LeavesOnly}
use Rattle.tree_model.specs.Keys.{Entry}
use Rattle.roots.specs.Root.{root_of}
use Rattle.roots.specs.declared.opening.OpenFault.{OpenFault}
use Rattle.roots.specs.declared.opening.OpenFault.TheVariants as faults
use Rattle.roots.specs.Image.{HoldsMap, OpensAs, StandsFor, model_at}
use Rattle.roots.specs.Store.{IsRunning, durable_root, failed_reads}
use Rattle.pager.specs.State.{State}
use Rattle.pager.specs.Turn.{IsBegun}
use Rattle.pager.specs.View.{pager_history}

-- The file may have so many pages, with page 0: as many as were asked for, 1,048,576 at most, or
-- those that it has.
abbrev pub HasLimit : {D : Type 0} → ℕ → State D → Type 0
HasLimit limit pager =
    length pager.book.states ≡ max (min limit 1048576) (durable_root pager.store).pages

-- The disk was opened as this pager, by reads and a sync alone.
pub record IsPagerOpened {D : Type 0} (history : D → History) (disk : D) (pager : State D) : Type
    0 where
  pub running : IsRunning pager.store
  pub made : pager.made ≡ []
  pub retired : pager.retired ≡ []
  pub pins : pager.book.pins ≡ []
  -- both counts begin at nothing: pages asked for in vain, and reads that failed
  pub no_failed_allocations : pager.book.failed_allocations ≡ 0
  pub no_failed_reads : KeepsWord (pager_history history pager) → failed_reads pager.store ≡ 0
  pub extends : ExtendsHistory (history disk) (pager_history history pager)
  -- its root is the one that the disk's sectors give
  pub opens : KeepsWord (pager_history history pager)
      → OpensAs (reads (now (history disk))) (durable_root pager.store)
  -- a turn may begin with whatever entries this root has
  pub begun : (live : List ℕ) (entries : List Entry)
      → (KeepsWord (pager_history history pager) → let image = reads (now (history disk)) in
      HoldsMap (model_at image (durable_root pager.store)) (durable_root pager.store) live entries)
      → IsBegun history pager live entries
  pub alone : (entries : List Entry) → StandsFor (reads (now (history disk))) entries
      → CrashLeaves (pager_history history pager) (λ image. StandsFor image entries)
  -- where reads give one of the images, those during the call and after it are among those before
  pub any_moment : IsImage (now (history disk)) (reads (now (history disk)))
      → LeavesOnly (history disk) (pager_history history pager) (IsImage (now (history disk)))

-- The disk was handed back, after reads and at most one sync.
pub record IsPagerRefused {D : Type 0} (history : D → History) (disk back : D)
    (fault : OpenFault) : Type 0 where
  pub extends : ExtendsHistory (history disk) (history back)
  pub any_moment : IsImage (now (history disk)) (reads (now (history disk)))
      → LeavesOnly (history disk) (history back) (IsImage (now (history disk)))
  -- a fault of the bytes comes only where they stand for no entries
  pub damaged : fault ≢ faults.Device → fault ≢ faults.Memory → KeepsWord (history back)
      → (entries : List Entry) → StandsFor (reads (now (history disk))) entries → ⊥
  -- that they are no database's, or a newer format's, is what the two root sectors say
  pub foreign : fault ≡ faults.NotADatabase → KeepsWord (history back)
      → root_of (reads (now (history disk)) 0) (reads (now (history disk)) 1)
      ≡ Err faults.NotADatabase
  pub later : fault ≡ faults.NewerFormat → KeepsWord (history back)
      → root_of (reads (now (history disk)) 0) (reads (now (history disk)) 1)
      ≡ Err faults.NewerFormat
  pub device : fault ≡ faults.Device → KeepsWord (history back)
      → (history disk).failures < (history back).failures
  -- want of memory is told only where nothing failed
  pub memory : fault ≡ faults.Memory → KeepsWord (history back)
      → (history back).failures ≡ (history disk).failures
