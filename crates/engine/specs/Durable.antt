-- What an engine keeps in its file.
use Rattle.std.specs.Prelude.{◌≡◌, ℕ, Bool, true, false}
use Rattle.page.specs.History.{History}
use Rattle.collections.specs.State.{State}
use Rattle.collections.specs.Standing.{HasState}
use Rattle.collections.specs.View as views
use Rattle.pinned_cursors.specs.Tied.{AreTied}
use Rattle.database_model.specs.Lawful.{IsLawfulState, AreLawfulCursors}
use Rattle.engine.specs.View.{world, turn_start}
use Rattle.engine.specs.declared.engine.Engine.{Engine}

-- its file: the disk with all its moments, the root that is committed, and the running turn's tree
abbrev pub file_of : {D : Type 0} → Engine D → State D
file_of engine = engine.file

-- each moment of the engine's disk so far
abbrev pub disk_history : {D : Type 0} → (D → History) → Engine D → History
disk_history history engine = views.disk_history history (file_of engine)

-- the commands of the running turn have changed something
abbrev pub has_changes : {D : Type 0} → Engine D → Bool
has_changes engine = engine.is_changed

-- what has changes keeps them
abbrev pub KeepsChanges : {D : Type 0} → Engine D → Engine D → Type 0
KeepsChanges old new = has_changes old ≡ true → has_changes new ≡ true

-- a write or a sync of the engine's has failed
abbrev pub is_stopped : {D : Type 0} → Engine D → Bool
is_stopped engine = views.is_stopped (file_of engine)

abbrev pub IsRunning : {D : Type 0} → Engine D → Type 0
IsRunning engine = is_stopped engine ≡ false

-- the number of the last commit
abbrev pub generation : {D : Type 0} → Engine D → ℕ
generation engine = views.generation (file_of engine)

-- how often a page was asked for and none was free
abbrev pub failed_allocations_of : {D : Type 0} → (D → History) → Engine D → ℕ
failed_allocations_of history engine = (views.pages_of history (file_of engine)).failed_allocations

-- how often a read of the disk has failed, as far as a u64 counts
abbrev pub failed_reads_of : {D : Type 0} → (D → History) → Engine D → ℕ
failed_reads_of history engine = (views.pages_of history (file_of engine)).failed_reads

-- Until it stops, its file has the collections as they were at the beginning of the turn, and a
-- tree of those of now; and what is left of a cursor that holds no documents is what its walk is
-- still to give of the version that is pinned for it. Where its commands have changed nothing, its
-- file's tree is the committed one.
pub record IsSound {D : Type 0} (history : D → History) (engine : Engine D) : Type 0 where
  pub lawful : IsLawfulState (world engine).collections
  pub cursors : AreLawfulCursors (world engine).cursors
  pub before : IsLawfulState (turn_start engine)
  pub quiet : has_changes engine ≡ false → turn_start engine ≡ (world engine).collections
  pub file : HasState history (file_of engine) (turn_start engine) (world engine).collections
  pub unchanged : IsRunning engine → has_changes engine ≡ false
      → views.is_changed (file_of engine) ≡ false
  pub tied : AreTied (has_changes engine) history (file_of engine) engine.cursors.list
