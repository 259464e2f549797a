-- What the commit of a turn gives.
use Rattle.std.specs.Prelude.{◌≡◌, ◌≢◌, ◌⊎◌, ◌+◌, ◌-◌, ◌<◌, ◌≤◌, ◌^◌, false, true, List, Result}
use Rattle.std.specs.Prelude.{Err, OnOk, OnErr}
use Rattle.page.specs.History.{History, KeepsWord}
use Rattle.page.specs.Crash.{ExtendsHistory, LeavesOnly, CrashLeaves}
use Rattle.tree_model.specs.Store.{HasNoPage}
use Rattle.roots.specs.declared.store.CommitFault.{CommitFault}
use Rattle.roots.specs.declared.store.CommitFault.TheVariants as faults
use Rattle.entry_model.specs.State.{Collection}
use Rattle.collections.specs.State.{State}
use Rattle.collections.specs.FreePages.{NamesFreePages}
use Rattle.collections.specs.Holding.{HoldsState}
use Rattle.collections.specs.Marks.{IsUntouched}
use Rattle.collections.specs.Standing.{HasState}
use Rattle.collections.specs.View.{disk_history, generation, is_changed, is_stopped, pages_of}

-- Where nothing had failed, a crash at any moment of the call leaves the collections as they were
-- when the turn began, or as they are now; at Ok as they are now, and the next turn begins with
-- them.
pub record Moves {D : Type 0} (history : D → History) (start now : List Collection)
    (result : Result (Unit {0}) CommitFault) (old new : State D) : Type 0 where
  pub any_moment : LeavesOnly (disk_history history old) (disk_history history new)
      (λ image. HoldsState image start ⊎ HoldsState image now)
  pub acknowledged : OnOk result
      (CrashLeaves (disk_history history new) (λ image. HoldsState image now))
  pub begun : OnOk result (HasState history new now now)
  -- and what a crash leaves then names each free page
  pub listed : OnOk result (CrashLeaves (disk_history history new) NamesFreePages)

-- No page was free for the file's list of free pages, which is counted, and nothing else changed.
pub record FindsNoPage {D : Type 0} (history : D → History) (old new : State D) : Type 0 where
  pub counted : HasNoPage (pages_of history old) (pages_of history new)
  pub untouched : IsUntouched history old new
  pub state : (start now : List Collection) → HasState history old start now
      → HasState history new start now

-- Why a commit finds no room: no greater generation is left, or no page is free.
abbrev pub FindsNoRoom : {D : Type 0} → (D → History) → State D → State D → Type 0
FindsNoRoom history old new =
    ((generation old ≡ 2 ^ 64 - 1) × (new ≡ old)) ⊎ FindsNoPage history old new

-- A write or a sync had failed before the call, or failed in it.
abbrev pub HasFailedToWrite : {D : Type 0} → (D → History) → State D → State D → Type 0
HasFailedToWrite history old new = (is_stopped old ≡ true)
    ⊎ ((disk_history history old).failed_writes < (disk_history history new).failed_writes)

-- The turn was made durable, or not.
pub record CommitsCollections {D : Type 0} (history : D → History)
    (result : Result (Unit {0}) CommitFault) (old new : State D) : Type 0 where
  pub extends : ExtendsHistory (disk_history history old) (disk_history history new)
  pub running : OnOk result ((is_stopped old ≡ false) × (is_stopped new ≡ false))
  pub version : OnOk result (generation new ≡ generation old + 1)
  pub still : OnErr result (generation new ≡ generation old)
  pub clean : OnOk result (is_changed new ≡ false)
  -- how often a page was asked for and none was free: never fewer, and more often only at Full
  pub takes : (pages_of history old).failed_allocations ≤ (pages_of history new).failed_allocations
  pub found : result ≢ Err faults.Full
      → (pages_of history new).failed_allocations ≡ (pages_of history old).failed_allocations
  -- the turn is still there, to be undone
  pub memory : result ≡ Err faults.Memory → new ≡ old
  pub full : result ≡ Err faults.Full → FindsNoRoom history old new
  pub stops : result ≡ Err faults.Device → is_stopped new ≡ true
  pub device : result ≡ Err faults.Device → KeepsWord (disk_history history new)
      → HasFailedToWrite history old new
  pub idle : is_stopped old ≡ true → new ≡ old
  pub moves : is_stopped old ≡ false → (start now : List Collection)
      → HasState history old start now → Moves history start now result old new
