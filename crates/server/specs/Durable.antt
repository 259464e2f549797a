-- What a server keeps on its disk, and what a crash may leave.
use Rattle.std.specs.Prelude.{◌≡◌, ℕ, Bool, true, false, List}
use Rattle.page.specs.History.{History}
use Rattle.page.specs.Crash.{ExtendsHistory, LeavesOnly}
use Rattle.trusted_disk.specs.Trusting.{trusted_history}
use Rattle.trusted_disk.specs.declared.disk.TrustedDisk.{TrustedDisk}
use Rattle.collections.specs.State.{State}
use Rattle.entry_model.specs.State.{Collection}
use Rattle.database_model.specs.World.{are_untouched}
use Rattle.engine.specs.View.{world, turn_start}
use Rattle.engine.specs.Durable as engines
use Rattle.engine.specs.declared.engine.Engine.{Engine}
use Rattle.server.specs.ServerState.{are_ascending}
use Rattle.server.specs.Moment.{Moment, Instant, HoldsEither}
use Rattle.server.specs.View.{state}
use Rattle.server.specs.declared.turn.Core.{Core}

-- Each moment of the server's disk so far. What is said of a server holds while its disk keeps its
-- word and is trusted: it held collections when it was opened.
abbrev pub disk_history : {D : Type 0} → (D → History) → Core D → History
disk_history history core = engines.disk_history (trusted_history history) core.engine

-- a write or a sync has failed, and nothing is committed any more
abbrev pub is_stopped : {D : Type 0} → Core D → Bool
is_stopped core = engines.is_stopped core.engine

abbrev pub IsRunning : {D : Type 0} → Core D → Type 0
IsRunning core = engines.IsRunning core.engine

-- Between calls no turn is open, and no cursor is touched; the connections ascend. Until the server
-- stops, every image holds the collections as they are, and no others.
pub record IsSound {D : Type 0} (history : D → History) (core : Core D) : Type 0 where
  pub engine : engines.IsSound (trusted_history history) core.engine
  pub idle : turn_start core.engine ≡ (world core.engine).collections
  pub rested : are_untouched (world core.engine).cursors ≡ true
  pub clean : engines.has_changes core.engine ≡ false
  pub ascending : are_ascending core.connections.items ≡ true

-- its file, with all that its commands have written
abbrev pub file_of : {D : Type 0} → Core D → State (TrustedDisk D)
file_of core = engines.file_of core.engine

-- the collections of the server
abbrev pub collections_of : {D : Type 0} → Core D → List Collection
collections_of core = (state core).world.collections

-- the moment of the engine's disk, and what its file has counted
abbrev pub engine_moment : {D : Type 0} → (D → History) → Engine D → Moment
engine_moment history engine = record {
  keeps_word = (engines.disk_history history engine).keeps_word;
  clock = (engines.disk_history history engine).clock;
  failures = (engines.disk_history history engine).failures;
  generation = engines.generation engine;
  failed_allocations = engines.failed_allocations_of history engine;
}

abbrev pub moment_of : {D : Type 0} → (D → History) → Core D → Moment
moment_of history core = engine_moment (trusted_history history) core.engine

-- What one step does to the disk: a crash at any moment of it leaves the collections as they were
-- or as they are after it.
pub record GoesSafely {D : Type 0} (history : D → History) (old new : Core D) : Type 0 where
  pub extends : ExtendsHistory (disk_history history old) (disk_history history new)
  pub any_moment : IsRunning old → LeavesOnly (disk_history history old) (disk_history history new)
      (HoldsEither (collections_of old) (collections_of new))
  pub idle : is_stopped old ≡ true → disk_history history new ≡ disk_history history old

-- where the server stands
abbrev pub instant_of : {D : Type 0} → (D → History) → Core D → Instant
instant_of history core = record { moment = moment_of history core; state = state core }

abbrev pub clock_of : {D : Type 0} → (D → History) → Core D → ℕ
clock_of history core = (disk_history history core).clock
