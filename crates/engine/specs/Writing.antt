-- What commands do to the file.
use Rattle.std.specs.Prelude.{◌≡◌, ◌⊎◌, List, Result, Ok, Err, IfErr, OnOk, OnErr}
use Rattle.page.specs.History.{History, KeepsWord}
use Rattle.path.specs.declared.refusal.Refusal.{Refusal}
use Rattle.entry_model.specs.State.{Collection}
use Rattle.collections.specs.State.{State}
use Rattle.collections.specs.Calls.{ExtendsTurn, HasWriteCause, IsOfFile}
use Rattle.collections.specs.View.{disk_history}
use Rattle.engine.specs.Durable as durable
use Rattle.engine.specs.Durable.{file_of, has_changes, IsSound, KeepsChanges}
use Rattle.engine.specs.View.{world, turn_start}
use Rattle.database_model.specs.World.{World}
use Rattle.engine.specs.declared.engine.Engine.{Engine}

-- Why a command was refused that leads to this world and isn't refused by its definition: memory
-- ran out; or, while the disk keeps its word, the device failed, no page was free, or the tree
-- would have 2^32 entries or more.
abbrev pub FileCause : {D : Type 0} → (D → History) → State D → State D → World → Refusal → Type 0
FileCause history old new planned e =
    IsOfFile e × (KeepsWord (disk_history history new)
    → HasWriteCause history planned.collections old new e)

-- Edits that make these collections of those of now were put into the file, or nothing of them.
pub record Writes {D : Type 0} (history : D → History) (after : List Collection)
    (result : Result (Unit {0}) Refusal) (old new : Engine D) : Type 0 where
  pub sound : IsSound history new
  pub continues : ExtendsTurn history (file_of old) (file_of new)
  pub start : turn_start new ≡ turn_start old
  pub cursors : new.cursors ≡ old.cursors
  pub ok : OnOk result ((world new).collections ≡ after)
  pub err : OnErr result (((world new).collections ≡ (world old).collections)
      × (has_changes new ≡ has_changes old))
  pub kinds : IfErr result IsOfFile
  pub cause : KeepsWord (durable.disk_history history new)
      → IfErr result (HasWriteCause history after (file_of old) (file_of new))
  pub keeps : KeepsChanges old new

-- the collections that are planned, or these where a refusal is
abbrev pub planned_or : List Collection → Result (List Collection) Refusal → List Collection
planned_or before (Ok after) = after
planned_or before (Err e) = before

-- The collections became those that were planned, or stayed as they were: the refusal was planned,
-- or it has its cause.
abbrev pub Becomes : {D : Type 0} → (D → History) → Result (List Collection) Refusal
    → Result (Unit {0}) Refusal → Engine D → Engine D → Type 0
Becomes history planned (Ok _) old new = planned ≡ Ok (world new).collections
Becomes history planned (Err e) old new = ((world new).collections ≡ (world old).collections)
    × ((planned ≡ Err e)
    ⊎ HasWriteCause history (planned_or (world old).collections planned) (file_of old)
    (file_of new) e)

-- The collections were changed. While the disk keeps its word, they became those that were planned,
-- or the change was refused. On any disk a change that is refused leaves them as they were, and a
-- turn that had changes before has them still.
pub record ChangesCollections {D : Type 0} (history : D → History)
    (planned : Result (List Collection) Refusal)
    (result : Result (Unit {0}) Refusal) (old new : Engine D) : Type 0 where
  pub sound : IsSound history new
  pub continues : ExtendsTurn history (file_of old) (file_of new)
  pub start : turn_start new ≡ turn_start old
  pub cursors : new.cursors ≡ old.cursors
  pub as_planned : KeepsWord (durable.disk_history history new)
      → Becomes history planned result old new
  pub left : OnErr result ((world new).collections ≡ (world old).collections)
  pub refused : OnErr result (has_changes new ≡ has_changes old)
  pub keeps : KeepsChanges old new
