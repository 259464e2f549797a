-- What the commit of a turn does to an engine.
use Rattle.std.specs.Prelude.{◌≡◌, ◌≢◌, ◌⊎◌, ◌<◌, ◌≤◌, ◌+◌, ◌-◌, ◌^◌, true, false, ◌&&◌}
use Rattle.std.specs.Prelude.{if◌then◌else◌, Result, Ok, Err, is_ok, OnOk, OnErr}
use Rattle.page.specs.History.{History, KeepsWord}
use Rattle.page.specs.Crash.{ExtendsHistory, LeavesOnly, CrashLeaves}
use Rattle.tree_model.specs.Store.{HasNoPage}
use Rattle.roots.specs.declared.store.CommitFault.{CommitFault}
use Rattle.roots.specs.declared.store.CommitFault.TheVariants as faults
use Rattle.collections.specs.FreePages.{NamesFreePages}
use Rattle.collections.specs.View.{pages_of}
use Rattle.database_model.specs.World.{are_untouched, after_commit, after_undo}
use Rattle.engine.specs.View.{world, turn_start}
use Rattle.engine.specs.Durable.{disk_history, file_of, failed_allocations_of, generation}
use Rattle.engine.specs.Durable.{has_changes}
use Rattle.engine.specs.Durable.{is_stopped, IsRunning, IsSound}
use Rattle.opening.specs.Holding.{HoldsCollections}
use Rattle.engine.specs.declared.engine.Engine.{Engine}

-- A page was asked for and none was free, which is counted (the count stays at its greatest value).
abbrev pub FoundNoPage : {D : Type 0} → (D → History) → Engine D → Engine D → Type 0
FoundNoPage history old new =
    HasNoPage (pages_of history (file_of old)) (pages_of history (file_of new))

-- The turn was ended, and what it changed is durable, or not.
pub record CommitsTurn {D : Type 0} (history : D → History) (result : Result (Unit {0}) CommitFault)
    (old new : Engine D) : Type 0 where
  pub sound : IsSound history new
  pub extends : ExtendsHistory (disk_history history old) (disk_history history new)
  pub done : OnOk result (world new ≡ after_commit (world old))
  pub stops : result ≡ Err faults.Device
      → (world new ≡ after_commit (world old)) × (is_stopped new ≡ true)
  pub memory : result ≡ Err faults.Memory → world new ≡ after_undo (turn_start old) (world old)
  -- want of memory hides nothing: the disk wasn't called
  pub clear : result ≡ Err faults.Memory → disk_history history new ≡ disk_history history old
  -- Full comes only where no greater generation is left, or no page was free
  pub full : result ≡ Err faults.Full → (world new ≡ after_undo (turn_start old) (world old))
      × ((generation old ≡ 2 ^ 64 - 1) ⊎ FoundNoPage history old new)
  -- a commit has the next number; where nothing was changed, or the turn is not done, there is none
  pub version : generation new
      ≡ (if is_ok result && has_changes old then generation old + 1 else generation old)
  pub ended : turn_start new ≡ (world new).collections
  -- how often a page was asked for and none was free: never fewer, and more often only at Full
  pub takes : failed_allocations_of history old ≤ failed_allocations_of history new
  pub found : result ≢ Err faults.Full → failed_allocations_of history new ≡ failed_allocations_of
      history old
  pub running : result ≢ Err faults.Device → is_stopped new ≡ is_stopped old
  -- a crash at any moment of the call leaves the collections as they were before the turn or as
  -- they are after it
  pub any_moment : IsRunning old → LeavesOnly (disk_history history old) (disk_history history new)
      (λ image. HoldsCollections image (turn_start old) ⊎ HoldsCollections image
      (world old).collections)
  -- where the turn is undone, it leaves them as they were before, at every moment
  pub kept : IsRunning old → result ≢ Err faults.Device
      → OnErr result (LeavesOnly (disk_history history old) (disk_history history new)
      (λ image. HoldsCollections image (turn_start old)))
  -- at Ok it leaves them as they are after it, and nothing else
  pub acknowledged : IsRunning old
      → OnOk result
      (CrashLeaves (disk_history history new)
      (λ image. HoldsCollections image (world old).collections))
  -- and where the turn changed something, what a crash leaves then names each free page
  pub listed : IsRunning old → has_changes old ≡ true
      → OnOk result (CrashLeaves (disk_history history new) NamesFreePages)
  -- Device comes only where a write or a sync had failed before the call, or failed in it
  pub device : result ≡ Err faults.Device → KeepsWord (disk_history history new)
      → (is_stopped old ≡ true)
      ⊎ ((disk_history history old).failed_writes < (disk_history history new).failed_writes)
  pub idle : is_stopped old ≡ true → disk_history history new ≡ disk_history history old
  -- where the commands changed nothing, there is nothing to write
  pub quiet : has_changes old ≡ false
      → (result ≡ Ok tt) × (file_of new ≡ file_of old)
  pub clean : has_changes new ≡ false
  pub rested : are_untouched (world new).cursors ≡ true
