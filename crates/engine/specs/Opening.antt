-- What opening a disk gives.
use Rattle.std.specs.Prelude.{◌≡◌, false, true, Bool, List, []}
use Rattle.page.specs.History.{History, KeepsWord, now, reads, IsImage}
use Rattle.page.specs.Crash.{ExtendsHistory, LeavesOnly, CrashLeaves}
use Rattle.trusted_disk.specs.Trusting.{trusted_history}
use Rattle.trusted_disk.specs.declared.disk.TrustedDisk.{TrustedDisk}
use Rattle.entry_model.specs.State.{Collection}
use Rattle.collections.specs.Trusting as files
use Rattle.opening.specs.Holding.{HoldsCollections}
use Rattle.engine.specs.View.{world, turn_start}
use Rattle.engine.specs.Durable.{disk_history, failed_reads_of, file_of, failed_allocations_of}
use Rattle.engine.specs.Durable.{has_changes, IsRunning, IsSound}
use Rattle.engine.specs.declared.engine.Engine.{Engine}

-- each moment of the disk itself so far
abbrev pub inner_history : {D : Type 0} → (D → History) → Engine (TrustedDisk D) → History
inner_history history engine = files.inner_history history (file_of engine)

-- whether the disk held collections when it was opened
abbrev pub is_trusted : {D : Type 0} → Engine (TrustedDisk D) → Bool
is_trusted engine = files.is_trusted (file_of engine)

-- The disk was opened as this engine, by reads and a sync alone.
pub record IsEngineOpened {D : Type 0} (history : D → History) (disk : D)
    (engine : Engine (TrustedDisk D)) : Type 0 where
  pub sound : IsSound (trusted_history history) engine
  pub running : IsRunning engine
  pub idle : turn_start engine ≡ (world engine).collections
  pub cursors : ((world engine).cursors ≡ []) × ((world engine).next ≡ 1)
  pub clean : has_changes engine ≡ false
  -- both counts begin at nothing: pages asked for in vain, and reads that failed
  pub no_failed_allocations : failed_allocations_of (trusted_history history) engine ≡ 0
  pub no_failed_reads : KeepsWord (disk_history (trusted_history history) engine)
      → failed_reads_of (trusted_history history) engine ≡ 0
  pub extends : ExtendsHistory (history disk) (inner_history history engine)
  -- where the disk holds collections it is trusted, and these are the engine's
  pub trusted : (cs : List Collection) → HoldsCollections (reads (now (history disk))) cs
      → (is_trusted engine ≡ true) × ((world engine).collections ≡ cs)
  -- it is trusted nowhere else, and from then on every image holds these alone
  pub holds : KeepsWord (disk_history (trusted_history history) engine)
      → HoldsCollections (reads (now (history disk))) (world engine).collections
  pub alone : CrashLeaves (disk_history (trusted_history history) engine)
      (λ image. HoldsCollections image (world engine).collections)
  -- where reads give one of the images, the images during the call and after it are among those
  -- from before
  pub any_moment : IsImage (now (history disk)) (reads (now (history disk)))
      → LeavesOnly (history disk) (inner_history history engine) (IsImage (now (history disk)))
